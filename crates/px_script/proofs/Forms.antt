-- The parser reads what stands in lines exactly: each spelling back, and nothing else. What a line in its form has.
use Rattle.px_script.proofs.Common.{Binding, decimal, Lexeme, name, number, sign, Argument, Sign, WrittenAtom, SignedAtom, WrittenRoomEdit, named, bare, robot_to, door_to, spell, spell_argument, spell_sign, spell_atom, spell_room_edit, spell_binding, is_filled, is_parameter_number, parameter_name, open_word, with_commas, parenthesised, Statement, Line, line_of, is_word, Declared, Forms, begins_with_word, is_formed, is_signed, is_of_script, ◌≡◌, ℕ, zero, suc, ◌<◌, ◌≤◌, Bool, true, false, cond, not, ◌==◌, List, [], ◌∷◌, ◌++◌, map, length, drop, refl, ap, ◌∙◌, subst, arith, append_assoc, append-nil, eqb-true, length-append, ltb-true, nat_lt, Option, None, Some, codes, list_all, flat_map, option_map, option_and_then, IfSome, bytes_eq, digits_value, and_parts, not-true, bytes_eq-Decides, spell_pair, Part, a_fact, an_ancestor, an_axiom, spell_part, spell_terms, open_variable, anything}
use Rattle.std.proofs.lemmas.Fmt.{decimal_is_IsNumeral}
use Rattle.std.proofs.lemmas.Option.{IfSome_then}
use Rattle.px_script.specs.Forms as spec
use Rattle.px_script.proofs.Lists.{by_test}
use Rattle.px_script.specs.Parsing.{argument_of, items_after, items_at, all_within, all_of, atom_after, atom_at, sign_of, which, open_of, room_edit_at, parameter_of, binding_at, names_of, names_among, names_at, numbers_of, pair_at, part_at, terms_at, terms_after, fact_at, ancestor_at, axiom_at, at_end}

-- ---- what is said of an answer, if there is one

pub then-there : {A B : Type 0} {P : A → Type 0} (Q : B → Type 0) (f : A → Option B) (o : Option A) → IfSome o P
    → ((a : A) → P a → IfSome (f a) Q) → IfSome (option_and_then f o) Q
then-there Q f None is each = tt
then-there Q f (Some a) is each = each a is

pub map-there : {A B : Type 0} {P : A → Type 0} (Q : B → Type 0) (f : A → B) (o : Option A) → IfSome o P → ((a : A) → P a → Q (f a))
    → IfSome (option_map f o) Q
map-there Q f None is each = tt
map-there Q f (Some a) is each = each a is

pub if-there : {A : Type 0} (P : A → Type 0) (x y : Option A) (b : Bool) → (b ≡ true → IfSome x P) → (b ≡ false → IfSome y P)
    → IfSome (cond b x y) P
if-there P x y b on_true on_false = by_test b (λ e. rw e (on_true e)) (λ e. rw e (on_false e))

pub there : {A : Type 0} (P : A → Type 0) (o : Option A) (a : A) → IfSome o P → o ≡ Some a → P a
there P o a is e = subst (λ t. IfSome t P) e is

pub same_word : (w v : List ℕ) → bytes_eq w v ≡ true → w ≡ v
same_word w v e = (bytes_eq-Decides w v).0 e

-- ---- things of one kind up to the end of a line

-- the lexemes don't open a parenthesis
abbrev pub not_open : List Lexeme → Bool
not_open (sign s ∷ rest) = not (s == 40)
not_open _ = true

-- A reader of one thing reads each good one back before what opens no parenthesis.
pub record ReadsBack {A : Type 0} (good : A → Bool) (one : List Lexeme → Option (A × List Lexeme)) (spell : A → List Lexeme) : Type 0 where
  pub again : (a : A) (rest : List Lexeme) → good a ≡ true → not_open rest ≡ true → one (spell a ++ rest) ≡ Some (a, rest)
  pub closed : (a : A) (rest : List Lexeme) → not_open (spell a ++ rest) ≡ true
  pub long : (a : A) → 0 < length (spell a)

module _ {A : Type 0} (good : A → Bool) (one : List Lexeme → Option (A × List Lexeme)) (spell : A → List Lexeme)
    (back : ReadsBack good one spell) where
  all-step : (n : ℕ) (lexemes : List Lexeme) (prefix : A × List Lexeme) → 0 < length lexemes → one lexemes ≡ Some prefix
      → all_within one (suc n) lexemes ≡ option_map (λ more. prefix.0 ∷ more) (all_within one n prefix.1)
  unfolding all_within
  all-step n [] prefix long e = absurd (omega (arith, long))
  all-step n (x ∷ xs) prefix long e = rw e refl

  all-closed : (items : List A) → not_open (flat_map spell items) ≡ true
  all-closed [] = refl
  all-closed (a ∷ more) = back.closed a (flat_map spell more)

  all-within-again : (n : ℕ) (items : List A) → length (flat_map spell items) ≤ n → list_all good items ≡ true
      → all_within one n (flat_map spell items) ≡ Some items
  unfolding all_within
  all-within-again zero [] short all = refl
  all-within-again (suc n) [] short all = refl
  all-within-again zero (a ∷ more) short all = let first = back.long a in absurd (omega (arith, short, first, length-append {A = Lexeme}))
  all-within-again (suc n) (a ∷ more) short all = let both = and_parts (good a) (list_all good more) all in
      let rest = flat_map spell more in
      let first = back.long a in
      all-step n (spell a ++ rest) (a, rest) (rw length-append (omega (arith, first))) (back.again a rest both.0 (all-closed more))
      ∙ ap (option_map (λ t. a ∷ t)) (all-within-again n more (omega (arith, short, first, length-append (spell a) rest)) both.1)

  -- they end the line
  all-again : (items : List A) → list_all good items ≡ true → all_of one (flat_map spell items ++ []) ≡ Some items
  all-again items all = rw append-nil (all-within-again (length (flat_map spell items)) items (omega arith) all)

-- What a reader of one thing reads is spelled so.
abbrev pub ReadsSpelled : {A : Type 0} → (List Lexeme → Option (A × List Lexeme)) → (A → List Lexeme) → Type 0
ReadsSpelled one spell = (lexemes : List Lexeme) → IfSome (one lexemes) (λ prefix. lexemes ≡ spell prefix.0 ++ prefix.1)

pub all-sound : {A : Type 0} (one : List Lexeme → Option (A × List Lexeme)) (spell : A → List Lexeme) → ReadsSpelled one spell
    → (n : ℕ) (lexemes : List Lexeme) → IfSome (all_within one n lexemes) (λ items. lexemes ≡ flat_map spell items)
unfolding all_within
all-sound one spell are zero [] = refl
all-sound one spell are zero (x ∷ xs) = tt
all-sound one spell are (suc n) [] = refl
all-sound one spell are (suc n) (x ∷ xs) = then-there _ _ (one (x ∷ xs)) (are (x ∷ xs)) (λ prefix is.
    map-there _ _ (all_within one n prefix.1) (all-sound one spell are n prefix.1) (λ more rest. is ∙ ap (λ t. spell prefix.0 ++ t) rest))

-- ---- lists in parentheses

argument-again : (a : Argument) → argument_of (spell_argument a) ≡ Some a
argument-again (named n) = refl
argument-again _ = refl

argument-sound : (x : Lexeme) → IfSome (argument_of x) (λ a. x ≡ spell_argument a)
argument-sound (number n) = tt
argument-sound (sign s) = if-there _ _ _ (s == 36) (λ e. ap sign (eqb-true s 36 e)) (λ e. tt)
argument-sound _ = refl

-- a list with commas and its closing parenthesis
items-again : (a : Argument) (more : List Argument) (rest : List Lexeme)
    → items_after argument_of (with_commas (map spell_argument (a ∷ more)) ++ sign 41 ∷ rest) ≡ Some (a ∷ more, rest)
unfolding items_after
items-again a [] rest = rw argument-again refl
items-again a (b ∷ more) rest = rw (argument-again a, items-again b more rest) refl

arguments-again : (items : List Argument) (rest : List Lexeme) → not_open rest ≡ true
    → items_at argument_of (parenthesised (map spell_argument items) ++ rest) ≡ Some (items, rest)
arguments-again [] (sign s ∷ rest) closed = rw (not-true (s == 40) closed) refl
arguments-again [] _ closed = refl
arguments-again (a ∷ more) rest closed = rw append_assoc (items-again a more rest)

-- there is an item, and they are spelled so
abbrev AreRead : List Lexeme → List Argument → List Lexeme → Type 0
AreRead lexemes [] rest = ⊥
AreRead lexemes (a ∷ more) rest = lexemes ≡ with_commas (map spell_argument (a ∷ more)) ++ sign 41 ∷ rest

items-sound : (lexemes : List Lexeme) → IfSome (items_after argument_of lexemes) (λ r. AreRead lexemes r.0 r.1)
unfolding items_after
items-sound (x ∷ sign s ∷ rest) = then-there _ _ (argument_of x) (argument-sound x) (λ a is. if-there _ _ _ (s == 41)
    (λ close. rw (is, eqb-true s 41 close) refl) (λ e. if-there _ _ _ (s == 44)
    (λ comma. map-there _ _ (items_after argument_of rest) (items-sound rest) (λ r read. longer a is comma r.0 r.1 read)) (λ e. tt)))
  where
    longer : (a : Argument) → x ≡ spell_argument a → (s == 44) ≡ true → (items : List Argument) (after : List Lexeme)
        → AreRead rest items after → AreRead (x ∷ sign s ∷ rest) (a ∷ items) after
    longer a is comma [] after read = absurd read
    longer a is comma (b ∷ more) after read = rw (is, eqb-true s 44 comma, read) refl
items-sound _ = tt

-- items in parentheses, or none
arguments-sound : (lexemes : List Lexeme)
    → IfSome (items_at argument_of lexemes) (λ r. lexemes ≡ parenthesised (map spell_argument r.0) ++ r.1)
arguments-sound (sign s ∷ rest) = if-there _ _ _ (s == 40)
    (λ e. IfSome_then (items_after argument_of rest) (items-sound rest) (λ r read. opened e r.0 r.1 read)) (λ e. refl)
  where
    opened : (s == 40) ≡ true → (items : List Argument) (after : List Lexeme) → AreRead rest items after
        → sign s ∷ rest ≡ parenthesised (map spell_argument items) ++ after
    opened e [] after read = absurd read
    opened e (b ∷ more) after read = rw (eqb-true s 40 e, read, append_assoc) refl
arguments-sound _ = refl

-- terms that were read, after their opening parenthesis
opened : (lexemes : List Lexeme) (items : List Argument) (after : List Lexeme) → AreRead lexemes items after
    → sign 40 ∷ lexemes ≡ spell_terms items ++ after
opened lexemes [] after read = absurd read
opened lexemes (b ∷ more) after read = rw (read, append_assoc) refl

-- arguments to the end of a line
pub arguments-all-again : (ts : List Argument)
    → option_and_then at_end (items_at argument_of (parenthesised (map spell_argument ts) ++ [])) ≡ Some ts
arguments-all-again ts = rw (arguments-again ts [] refl) refl

pub arguments-all-sound : (lexemes : List Lexeme)
    → IfSome (option_and_then at_end (items_at argument_of lexemes)) (λ ts. lexemes ≡ parenthesised (map spell_argument ts) ++ [])
arguments-all-sound lexemes =
    then-there _ at_end (items_at argument_of lexemes) (arguments-sound lexemes) (λ r is. ends r.0 r.1 is)
  where
    ends : (ts : List Argument) (after : List Lexeme) → lexemes ≡ parenthesised (map spell_argument ts) ++ after
        → IfSome (at_end (ts, after)) (λ ts. lexemes ≡ parenthesised (map spell_argument ts) ++ [])
    ends ts [] is = is
    ends ts (y ∷ ys) is = tt

names-spelled : (ns : List (List ℕ)) → (map spell_argument (map named ns) ≡ map name ns) × (names_among (map named ns) ≡ Some ns)
names-spelled [] = (refl, refl)
names-spelled (n ∷ ns) = let more = names-spelled ns in (ap (λ t. name n ∷ t) more.0, rw more.1 refl)

pub parameters-again : (ps : List (List ℕ)) → names_at (parenthesised (map name ps) ++ []) ≡ Some (ps, [])
parameters-again ps = let both = names-spelled ps in rw (← both.0, arguments-again (map named ps) [] refl, both.1) refl

names-among-sound : (arguments : List Argument) → IfSome (names_among arguments) (λ ns. map spell_argument arguments ≡ map name ns)
names-among-sound [] = refl
names-among-sound (named n ∷ more) = map-there _ _ (names_among more) (names-among-sound more) (λ ns is. ap (λ t. name n ∷ t) is)
names-among-sound _ = tt

pub names-at-sound : (lexemes : List Lexeme) → IfSome (names_at lexemes) (λ r. lexemes ≡ parenthesised (map name r.0) ++ r.1)
names-at-sound lexemes = then-there _ _ (items_at argument_of lexemes) (arguments-sound lexemes) (λ prefix is.
    map-there _ _ (names_among prefix.0) (names-among-sound prefix.0) (λ ns names. is ∙ ap (λ t. parenthesised t ++ prefix.1) names))

pub names-again : (ns : List (List ℕ)) → names_of (map name ns ++ []) ≡ Some ns
names-again [] = refl
names-again (n ∷ ns) = rw (names-again ns) refl

pub names-sound : (lexemes : List Lexeme) → IfSome (names_of lexemes) (λ ns. lexemes ≡ map name ns)
names-sound [] = refl
names-sound (name n ∷ rest) = map-there _ _ (names_of rest) (names-sound rest) (λ ns is. ap (λ t. name n ∷ t) is)
names-sound _ = tt

pub numbers-again : (ns : List ℕ) → numbers_of (map number ns ++ []) ≡ Some ns
numbers-again [] = refl
numbers-again (n ∷ ns) = rw (numbers-again ns) refl

pub numbers-sound : (lexemes : List Lexeme) → IfSome (numbers_of lexemes) (λ ns. lexemes ≡ map number ns)
numbers-sound [] = refl
numbers-sound (number n ∷ rest) = map-there _ _ (numbers_of rest) (numbers-sound rest) (λ ns is. ap (λ t. number n ∷ t) is)
numbers-sound _ = tt

-- ---- atoms, edits and bindings are read back

abbrev pub each : {A : Type 0} → A → Bool
each a = true

all-each : {A : Type 0} (items : List A) → list_all each items ≡ true
all-each [] = refl
all-each (a ∷ more) = all-each more

pub atoms-back : ReadsBack each atom_at spell_atom
atoms-back =
    record { again = λ x r _. again x.sign x.atom r; closed = λ x r. (begins x.sign x.atom r).0; long = λ x. (begins x.sign x.atom []).1 }
  where
    again : (before : Sign) (atom : WrittenAtom) (rest : List Lexeme) → not_open rest ≡ true
        → atom_at (spell_atom (record { sign = before; atom = atom }) ++ rest) ≡ Some (record { sign = before; atom = atom }, rest)
    again bare atom rest shut = rw (arguments-again atom.arguments rest shut) refl
    again _ atom rest shut = rw (arguments-again atom.arguments rest shut) refl

    begins : (before : Sign) (atom : WrittenAtom) (rest : List Lexeme) → let spelled = spell_atom (record { sign = before; atom = atom }) in
        (not_open (spelled ++ rest) ≡ true) × (0 < length spelled)
    begins bare atom rest = (refl, omega arith)
    begins _ atom rest = (refl, omega arith)

pub room-edits-back : ReadsBack each room_edit_at spell_room_edit
room-edits-back =
    record { again = λ a rest good shut. again a rest; closed = λ a rest. (begins a rest).0; long = λ a. (begins a []).1 }
  where
    again : (edit : WrittenRoomEdit) (rest : List Lexeme) → room_edit_at (spell_room_edit edit ++ rest) ≡ Some (edit, rest)
    again (door_to d true) rest = refl
    again (door_to d false) rest = refl
    again _ rest = refl

    begins : (edit : WrittenRoomEdit) (rest : List Lexeme)
        → (not_open (spell_room_edit edit ++ rest) ≡ true) × (0 < length (spell_room_edit edit))
    begins (robot_to r) rest = (refl, omega arith)
    begins _ rest = (refl, omega arith)

-- a parameter's name gives its number
parameter-again : (k : ℕ) → is_parameter_number k ≡ true → parameter_of (parameter_name k) ≡ Some k
parameter-again k good = let below : k < 10000 = ltb-true k 10000 (and_parts (nat_lt 0 k) (nat_lt k 10000) good).1 in
    let value : digits_value 10 (decimal k) ≡ k = (decimal_is_IsNumeral k (omega (arith, below))).1 in
    rw (value, (bytes_eq-Decides (parameter_name k) (parameter_name k)).1 refl, good) refl

pub bindings-back : ReadsBack (λ b. is_parameter_number b.parameter) binding_at spell_binding
bindings-back =
    record { again = λ b rest good shut. rw (parameter-again b.parameter good) refl; closed = λ b rest. refl; long = λ b. omega arith }

pub pairs-back : ReadsBack each pair_at spell_pair
pairs-back = record { again = λ p rest good shut. refl; closed = λ p rest. refl; long = λ p. omega arith }

terms-again : (ts : List Argument) (rest : List Lexeme) → terms_at (spell_terms ts ++ rest) ≡ Some (ts, rest)
terms-again [] rest = refl
terms-again (a ∷ more) rest = rw append_assoc (begun a more (items-again a more rest))
  where
    -- what begins with an argument doesn't begin with a closing parenthesis
    begun : (a : Argument) (more : List Argument) {answer : Option (List Argument × List Lexeme)}
        → items_after argument_of (with_commas (map spell_argument (a ∷ more)) ++ sign 41 ∷ rest) ≡ answer
        → terms_after (with_commas (map spell_argument (a ∷ more)) ++ sign 41 ∷ rest) ≡ answer
    begun (named n) [] e = e
    begun (named n) (b ∷ more) e = e
    begun (open_variable v) [] e = e
    begun (open_variable v) (b ∷ more) e = e
    begun anything [] e = e
    begun anything (b ∷ more) e = e

pub parts-back : ReadsBack each part_at spell_part
parts-back = record { again = λ p rest good shut. again p rest shut; closed = λ p rest. (begins p rest).0; long = λ p. (begins p []).1 }
  where
    again : (p : Part) (rest : List Lexeme) → not_open rest ≡ true → part_at (spell_part p ++ rest) ≡ Some (p, rest)
    again (a_fact j k x) rest shut = rw (atoms-back.again x rest refl shut) refl
    again (an_ancestor k) rest shut = refl
    again (an_axiom k place count ts) rest shut = rw (terms-again ts rest) refl

    begins : (p : Part) (rest : List Lexeme) → (not_open (spell_part p ++ rest) ≡ true) × (0 < length (spell_part p))
    begins (a_fact j k x) rest = (refl, omega arith)
    begins (an_ancestor k) rest = (refl, omega arith)
    begins (an_axiom k place count ts) rest = (refl, omega arith)

-- ---- what is read is spelled so

pub pair-sound : ReadsSpelled pair_at spell_pair
pair-sound (number n ∷ sign s ∷ number m ∷ rest) = if-there _ _ _ (s == 61) (λ e. rw (eqb-true s 61 e) refl) (λ e. tt)
pair-sound (number n ∷ sign s ∷ rest) = if-there _ _ _ (s == 61) (λ e. tt) (λ e. tt)
pair-sound _ = tt

pub which-sound : (word : Bool → List ℕ) (w : List ℕ) → IfSome (which (word true) (word false) w) (λ b. w ≡ word b)
which-sound word w = if-there _ _ _ (bytes_eq w (word true)) (same_word w (word true))
    (λ e. if-there _ _ _ (bytes_eq w (word false)) (same_word w (word false)) (λ e. tt))

sign-sound : (s : ℕ) → IfSome (sign_of s) (λ before. sign s ∷ [] ≡ spell_sign before)
sign-sound s = if-there _ _ _ (s == 126) (λ e. rw (eqb-true s 126 e) refl) (λ e. if-there _ _ _ (s == 43)
    (λ e. rw (eqb-true s 43 e) refl) (λ e. if-there _ _ _ (s == 45) (λ e. rw (eqb-true s 45 e) refl) (λ e. tt)))

atom-after-sound : (before : Sign) (lexemes : List Lexeme)
    → IfSome (atom_after before lexemes) (λ prefix. spell_sign before ++ lexemes ≡ spell_atom prefix.0 ++ prefix.1)
atom-after-sound before (name p ∷ rest) =
    map-there _ _ (items_at argument_of rest) (arguments-sound rest) (λ prefix is. rw (is, append_assoc) refl)
atom-after-sound before _ = tt

pub atom-sound : ReadsSpelled atom_at spell_atom
atom-sound (sign s ∷ rest) = then-there _ _ (sign_of s) (sign-sound s)
    (λ before is. IfSome_then (atom_after before rest) (atom-after-sound before rest) (λ prefix e. ap (λ t. t ++ rest) is ∙ e))
atom-sound lexemes = atom-after-sound bare lexemes

pub room-edit-sound : ReadsSpelled room_edit_at spell_room_edit
room-edit-sound (name w ∷ name thing ∷ name v ∷ rest) =
    if-there _ _ _ (bytes_eq w (codes "robot")) (λ e. rw (same_word w (codes "robot") e) refl)
    (λ e. if-there _ _ _ (bytes_eq w (codes "box")) (λ e. rw (same_word w (codes "box") e) refl)
    (λ e. if-there _ _ _ (bytes_eq w (codes "door")) (λ e. rw (same_word w (codes "door") e)
    (map-there _ _ (open_of v) (which-sound open_word v) (λ is_open is. rw is refl))) (λ e. tt)))
room-edit-sound (name w ∷ name thing ∷ rest) =
    if-there _ _ _ (bytes_eq w (codes "robot")) (λ e. rw (same_word w (codes "robot") e) refl)
    (λ e. if-there _ _ _ (bytes_eq w (codes "box")) (λ e. tt) (λ e. if-there _ _ _ (bytes_eq w (codes "door")) (λ e. tt) (λ e. tt)))
room-edit-sound _ = tt

parameter-sound : (w : List ℕ) → IfSome (parameter_of w) (λ k. w ≡ parameter_name k)
parameter-sound w = let k = digits_value 10 (drop 1 w) in
    if-there _ _ _ (bytes_eq w (parameter_name k))
    (λ e. if-there _ _ _ (is_parameter_number k) (λ good. same_word w (parameter_name k) e) (λ bad. tt)) (λ e. tt)

pub binding-sound : ReadsSpelled binding_at spell_binding
binding-sound (name p ∷ sign s ∷ name o ∷ rest) = if-there _ _ _ (s == 61)
    (λ e. map-there _ _ (parameter_of p) (parameter-sound p) (λ k is. rw (is, eqb-true s 61 e) refl)) (λ e. tt)
binding-sound (name p ∷ sign s ∷ rest) = if-there _ _ _ (s == 61) (λ e. tt) (λ e. tt)
binding-sound _ = tt

terms-after-sound : (lexemes : List Lexeme)
    → IfSome (terms_after lexemes) (λ r. sign 40 ∷ lexemes ≡ spell_terms r.0 ++ r.1)
terms-after-sound (sign s ∷ rest) = if-there _ _ _ (s == 41) (λ e. rw (eqb-true s 41 e) refl)
    (λ e. IfSome_then (items_after argument_of (sign s ∷ rest)) (items-sound (sign s ∷ rest))
    (λ r read. opened (sign s ∷ rest) r.0 r.1 read))
terms-after-sound lexemes = IfSome_then (items_after argument_of lexemes) (items-sound lexemes) (λ r read. opened lexemes r.0 r.1 read)

terms-sound : (lexemes : List Lexeme) → IfSome (terms_at lexemes) (λ r. lexemes ≡ spell_terms r.0 ++ r.1)
terms-sound (sign s ∷ rest) = if-there _ _ _ (s == 40) (λ e. IfSome_then (terms_after rest) (terms-after-sound rest)
    (λ r is. ap (λ t. sign t ∷ rest) (eqb-true s 40 e) ∙ is)) (λ e. tt)
terms-sound _ = tt

fact-sound : (lexemes : List Lexeme) → IfSome (fact_at lexemes) (λ prefix. name (codes "f") ∷ lexemes ≡ spell_part prefix.0 ++ prefix.1)
fact-sound (number j ∷ number k ∷ rest) =
    map-there _ _ (atom_at rest) (atom-sound rest) (λ prefix is. ap (λ t. name (codes "f") ∷ number j ∷ number k ∷ t) is)
fact-sound (number j ∷ _) = tt
fact-sound _ = tt

ancestor-sound : (lexemes : List Lexeme)
    → IfSome (ancestor_at lexemes) (λ prefix. name (codes "a") ∷ lexemes ≡ spell_part prefix.0 ++ prefix.1)
ancestor-sound (number k ∷ rest) = refl
ancestor-sound _ = tt

axiom-sound : (lexemes : List Lexeme) → IfSome (axiom_at lexemes) (λ prefix. name (codes "s") ∷ lexemes ≡ spell_part prefix.0 ++ prefix.1)
axiom-sound (number k ∷ number place ∷ number count ∷ rest) = map-there _ _ (terms_at rest) (terms-sound rest)
    (λ prefix is. ap (λ t. name (codes "s") ∷ number k ∷ number place ∷ number count ∷ t) is)
axiom-sound (number k ∷ number place ∷ _) = tt
axiom-sound (number k ∷ _) = tt
axiom-sound _ = tt

pub part-sound : ReadsSpelled part_at spell_part
part-sound (name w ∷ rest) =
    if-there _ _ _ (bytes_eq w (codes "f")) (λ e. rw (same_word w (codes "f") e) (fact-sound rest))
    (λ e. if-there _ _ _ (bytes_eq w (codes "a")) (λ e. rw (same_word w (codes "a") e) (ancestor-sound rest))
    (λ e. if-there _ _ _ (bytes_eq w (codes "s")) (λ e. rw (same_word w (codes "s") e) (axiom-sound rest)) (λ e. tt)))
part-sound _ = tt

-- ---- the whole line

-- what a line in its form has, one by one
pub record IsWellFormed (d : Declared) (l : Line) : Type 0 where
  pub word : is_word d.version l.word ≡ true
  pub filled : list_all is_filled l.items ≡ true
  pub signs : list_all (λ x. is_signed l.manner x.sign) (spec.line_atoms l) ≡ true
  pub of_script : is_of_script d l.manner ≡ true

pub well-formed : (d : Declared) (l : Line) → is_formed d l ≡ true → IsWellFormed d l
well-formed d l formed = let a = and_parts _ (is_of_script d l.manner) formed in
    let b = and_parts _ (list_all (λ x. is_signed l.manner x.sign) (spec.line_atoms l)) a.0 in
    let c = and_parts (is_word d.version l.word) (list_all is_filled l.items) b.0 in
    record { word = c.0; filled = c.1; signs = b.1; of_script = a.1 }

-- the statement of a form is known by its word
pub forms-known : (d : Declared) (lexemes : List Lexeme) (s : Statement) → Forms d lexemes s → begins_with_word d lexemes ≡ true
forms-known d lexemes s forms = rw forms.0 (well-formed d (line_of s) forms.1).word

pub atoms-again : (xs : List SignedAtom) → all_of atom_at (flat_map spell_atom xs ++ []) ≡ Some xs
atoms-again xs = all-again each atom_at spell_atom atoms-back xs (all-each xs)

pub edits-again : (es : List WrittenRoomEdit) → all_of room_edit_at (flat_map spell_room_edit es ++ []) ≡ Some es
edits-again es = all-again each room_edit_at spell_room_edit room-edits-back es (all-each es)

pub parts-again : (parts : List Part) → all_of part_at (flat_map spell_part parts ++ []) ≡ Some parts
parts-again parts = all-again each part_at spell_part parts-back parts (all-each parts)

pub pairs-again : (ps : List (ℕ × ℕ)) → all_of pair_at (flat_map spell_pair ps ++ []) ≡ Some ps
pairs-again ps = all-again each pair_at spell_pair pairs-back ps (all-each ps)

pub bindings-again : (bs : List Binding) → list_all (λ b. is_parameter_number b.parameter) bs ≡ true
    → all_of binding_at (flat_map spell_binding bs ++ []) ≡ Some bs
bindings-again bs good = all-again (λ b. is_parameter_number b.parameter) binding_at spell_binding bindings-back bs good
