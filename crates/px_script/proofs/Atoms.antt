-- The atoms of a line without a fault are the problem's, and their variables are numbered in the order in which they first occur.
use Rattle.px_script.proofs.Common.{Argument, SignedAtom, named, open_variable, anything, is_variable, is_empty, Statement, Line, Manner, patterns, line_of, Declared, number_in, parameters_here, with_variable, variable_names_of, term_of, atom_of, is_known_argument, takes, varies, varies_too_early, own_problem, variable_in, first_occurrences, AreNumbered, ◌≡◌, ℕ, suc, ◌+◌, ◌<◌, ◌≤◌, Bool, true, false, not, ◌&&◌, ◌||◌, ◌==◌, List, [], ◌∷◌, ◌++◌, map, length, refl, sym, ap, ◌∙◌, subst, arith, append_assoc, append-nil, eqb-true, length-append, nat_lt, All, fold, slice_index, list_any, flat_map, filter, filter_map, range_with_len, slice_index_or, nat_tests, not-false, or_parts, length-map, map-append, All-map, both_answers, has_name, Term, Obj, Var, Any, HasArity, IsTermOf, IsPatternTermOf, IsAtomOf, IsPatternOf, filter_agree, list_any_none}
use Rattle.px_script.specs.Forms as forms
use Rattle.px_script.proofs.Lists.{by_test, each-fails, list_any_flat, number-below, number-kept, number-new, known-still, known-last}
use Rattle.px_script.specs.Faultless.{IsRight}
use Rattle.px_script.specs.States.{AreInRange}

abbrev pub arguments_of : List SignedAtom → List Argument
arguments_of xs = flat_map (λ x. x.atom.arguments) xs

-- ---- numbers of variables

abbrev is_from : ℕ → ℕ → Bool
is_from least n = not (nat_lt n least)

abbrev is_other : ℕ → ℕ → Bool
is_other m n = not (n == m)

-- filters, one after the other
filter-twice : (p q : ℕ → Bool) (ns : List ℕ) → filter p (filter q ns) ≡ filter (λ n. q n && p n) ns
filter-twice p q [] = refl
filter-twice p q (n ∷ ns) = by_test (q n) (λ e. rw (e, filter-twice p q ns) refl) (λ e. rw e (filter-twice p q ns))

filter-below : (least m : ℕ) (ns : List ℕ) → m < least → filter (is_from least) (filter (is_other m) ns) ≡ filter (is_from least) ns
filter-below least m ns below =
    filter-twice (is_from least) (is_other m) ns ∙ filter_agree _ (is_from least) (λ n. grind (arith, nat_tests, below)) ns

filter-next : (least : ℕ) (ns : List ℕ) → filter (is_from least) (filter (is_other least) ns) ≡ filter (is_from (least + 1)) ns
filter-next least ns =
    filter-twice (is_from least) (is_other least) ns ∙ filter_agree _ (is_from (least + 1)) (λ n. grind (arith, nat_tests)) ns

filter-whole : (ns : List ℕ) → filter (is_from 0) ns ≡ ns
filter-whole [] = refl
filter-whole (n ∷ ns) = let on : is_from 0 n ≡ true = grind (arith, nat_tests) in rw on (ap (λ t. n ∷ t) (filter-whole ns))

-- a number that is the least, and then the later ones
first-number : (least m count k : ℕ) (ns : List ℕ) → least ≡ m → suc k ≡ count
    → filter (is_from (least + 1)) ns ≡ range_with_len (least + 1) k
    → filter (is_from least) (m ∷ filter (is_other m) ns) ≡ range_with_len least count
first-number least m count k ns same counts later =
    let P : ℕ → Type 0 = λ t. filter (is_from least) (t ∷ filter (is_other t) ns) ≡ range_with_len least count in
    let on : is_from least least ≡ true = grind (arith, nat_tests) in
    subst P same (rw (← counts, on) (ap (λ t. least ∷ t) (filter-next least ns ∙ later)))

-- the variables of more arguments come after those that were seen
variables-more : (arguments : List Argument) (seen : List (List ℕ))
    → (more : List (List ℕ)) × (fold with_variable seen arguments ≡ seen ++ more)
variables-more [] seen = ([], sym (append-nil seen))
variables-more (open_variable v ∷ rest) seen = by_test (has_name v seen) (λ e. rw e (variables-more rest seen))
    (λ e. let later = variables-more rest (seen ++ v ∷ []) in rw e (v ∷ later.0, later.1 ∙ append_assoc seen (v ∷ []) later.0))
variables-more (_ ∷ rest) seen = variables-more rest seen

-- an argument is no wild card, and its variable is one of these
abbrev pub is_listed : List (List ℕ) → Argument → Bool
is_listed variables (named n) = true
is_listed variables (open_variable v) = has_name v variables
is_listed variables anything = false

known-after : (v : List ℕ) (arguments : List Argument) (seen : List (List ℕ)) → has_name v seen ≡ true
    → has_name v (fold with_variable seen arguments) ≡ true
known-after v arguments seen known = let more = variables-more arguments seen in rw more.1 (known-still v seen more.0 known)

-- an argument that is no wild card
abbrev pub is_term : Argument → Bool
is_term anything = false
is_term _ = true

listed-in : (arguments : List Argument) (seen all : List (List ℕ)) → all ≡ fold with_variable seen arguments
    → list_any (λ a. not (is_term a)) arguments ≡ false → list_any (λ a. not (is_listed all a)) arguments ≡ false
listed-in [] seen all whole plain = refl
listed-in (named n ∷ rest) seen all whole plain = listed-in rest seen all whole plain
listed-in (anything ∷ rest) seen all whole plain = cc
listed-in (open_variable v ∷ rest) seen all whole plain = by_test (has_name v seen)
    (λ e. let later : all ≡ fold with_variable seen rest = rw e at whole in
    rw (ap (has_name v) later ∙ known-after v rest seen e) (listed-in rest seen all later plain))
    (λ e. let later : all ≡ fold with_variable (seen ++ v ∷ []) rest = rw e at whole in
    rw (ap (has_name v) later ∙ known-after v rest (seen ++ v ∷ []) (known-last v seen []))
    (listed-in rest (seen ++ v ∷ []) all later plain))

module _ (objects : List (List ℕ)) where
  abbrev occurrences : List (List ℕ) → List Argument → List ℕ
  occurrences variables arguments = filter_map variable_in (map (term_of [] variables objects) arguments)

  numbered-from : (arguments : List Argument) (seen more variables : List (List ℕ)) → variables ≡ seen ++ more
      → variables ≡ fold with_variable seen arguments
      → filter (is_from (length seen)) (first_occurrences (occurrences variables arguments)) ≡ range_with_len (length seen) (length more)
  numbered-from [] seen more variables whole all =
      let none : length more ≡ 0 = let a = ap length (sym whole ∙ all) in omega (arith, a, length-append seen more) in rw none refl
  numbered-from (open_variable v ∷ rest) seen more variables whole all = by_test (has_name v seen) (λ e.
      let kept : number_in v variables ≡ number_in v seen = ap (number_in v) whole ∙ number-kept v seen more e in
      let below : number_in v variables < length seen = let b = number-below v seen e in omega (arith, kept, b) in
      let out : is_from (length seen) (number_in v variables) ≡ false = grind (arith, nat_tests, below) in
      let later = numbered-from rest seen more variables whole (rw e at all) in
      rw out (filter-below (length seen) (number_in v variables) (first_occurrences (occurrences variables rest)) below ∙ later))
      (λ e.
      let after = variables-more rest (seen ++ v ∷ []) in
      let all_after : variables ≡ fold with_variable (seen ++ v ∷ []) rest = rw e at all in
      let split : variables ≡ seen ++ v ∷ after.0 = all_after ∙ after.1 ∙ append_assoc seen (v ∷ []) after.0 in
      let number : length seen ≡ number_in v variables = sym (ap (number_in v) split ∙ number-new v seen after.0 e) in
      let longer : suc (length after.0) ≡ length more =
      let a = ap length (sym whole ∙ split) in omega (arith, a, length-append seen more, length-append seen (v ∷ after.0)) in
      let count : length (seen ++ v ∷ []) ≡ length seen + 1 = omega (arith, length-append seen (v ∷ [])) in
      let later = numbered-from rest (seen ++ v ∷ []) after.0 variables (split ∙ sym (append_assoc seen (v ∷ []) after.0)) all_after in
      let L : ℕ → Type 0 = λ k. filter (is_from k) (first_occurrences (occurrences variables rest)) ≡ range_with_len k (length after.0) in
      first-number (length seen) (number_in v variables) (length more) (length after.0)
      (first_occurrences (occurrences variables rest)) number longer (subst L count later))
  numbered-from (_ ∷ rest) seen more variables whole all = numbered-from rest seen more variables whole all

-- the terms of atoms, in a row
pub args-of : (d : Declared) (variables : List (List ℕ)) (xs : List SignedAtom)
    → flat_map (λ atom. atom.args) (map (atom_of d variables) xs) ≡ map (term_of (parameters_here d) variables d.names.objects)
    (arguments_of xs)
args-of d variables [] = refl
args-of d variables (x ∷ xs) =
    ap (λ t. map (term_of (parameters_here d) variables d.names.objects) x.atom.arguments ++ t) (args-of d variables xs)
    ∙ sym (map-append (term_of (parameters_here d) variables d.names.objects) x.atom.arguments (arguments_of xs))

pub numbered : (d : Declared) (xs : List SignedAtom) → parameters_here d ≡ []
    → AreNumbered (length (variable_names_of xs)) (map (atom_of d (variable_names_of xs)) xs)
numbered d xs none =
    ap (λ t. first_occurrences (filter_map variable_in t)) (args-of d (variable_names_of xs) xs
    ∙ ap (λ ps. map (term_of ps (variable_names_of xs) d.names.objects) (arguments_of xs)) none)
    ∙ sym (filter-whole (first_occurrences (occurrences d.names.objects (variable_names_of xs) (arguments_of xs))))
    ∙ numbered-from d.names.objects (arguments_of xs) [] (variable_names_of xs) (variable_names_of xs) refl refl

-- arguments without variables
variables-none : (arguments : List Argument) → list_any is_variable arguments ≡ false → fold with_variable [] arguments ≡ []
variables-none [] none = refl
variables-none (open_variable v ∷ more) none = cc
variables-none (_ ∷ more) none = variables-none more none

-- ---- atoms whose names are declared and whose arguments are of the right number and kind

-- the atom's length isn't the arity of its predicate
abbrev pub has_other_arity : Declared → SignedAtom → Bool
has_other_arity d x = not (length x.atom.arguments == slice_index d.arities (number_in x.atom.predicate d.names.predicates))

-- what the causes say of atoms
pub record AreRight (d : Declared) (manner : Manner) (xs : List SignedAtom) : Type 0 where
  pub declared : list_any (λ x. not (has_name x.atom.predicate d.names.predicates)) xs ≡ false
  pub known : list_any (λ a. not (is_known_argument d a)) (arguments_of xs) ≡ false
  pub arity : list_any (has_other_arity d) xs ≡ false
  pub bound : list_any (λ a. not (takes d manner a)) (arguments_of xs) ≡ false

-- What terms have that may stand: objects and variables of this many have it, and the wild card where it is accepted.
record Accepts (d : Declared) (variables : List (List ℕ)) (variable_count : ℕ) (accepts : Argument → Bool) (P : Term → Type 0) : Type 0 where
  object : (k : ℕ) → k < length d.names.objects → P (Obj k)
  variable : (k : ℕ) → k < variable_count → P (Var k)
  wild : accepts anything ≡ true → P Any
  bound : (v : List ℕ) → accepts (open_variable v) ≡ true → has_name v variables ≡ true
  parameters : length (parameters_here d) ≤ variable_count
  few : length variables ≤ variable_count

module _ (d : Declared) (predicates : length d.arities ≡ length d.names.predicates) (variables : List (List ℕ)) (variable_count : ℕ)
    (accepts : Argument → Bool) (P : Term → Type 0) (a : Accepts d variables variable_count accepts P) where
  abbrev term : Argument → Term
  term = term_of (parameters_here d) variables d.names.objects

  term-is : (argument : Argument) → is_known_argument d argument ≡ true → accepts argument ≡ true → P (term argument)
  term-is (named n) known right = by_test (has_name n (parameters_here d)) (λ e. let below = number-below n (parameters_here d) e in
      rw e (a.variable (number_in n (parameters_here d)) (omega (arith, below, a.parameters))))
      (λ e. rw e (a.object (number_in n d.names.objects)
      (number-below n d.names.objects (or-left (has_name n d.names.objects) (has_name n (parameters_here d)) known e))))
    where
      or-left : (a b : Bool) → (a || b) ≡ true → b ≡ false → a ≡ true
      or-left true b e f = refl
      or-left false b e f = cc
  term-is (open_variable v) known right =
      let below = number-below v variables (a.bound v right) in a.variable (number_in v variables) (omega (arith, below, a.few))
  term-is anything known right = a.wild right

  terms-are : (arguments : List Argument) → list_any (λ x. not (is_known_argument d x)) arguments ≡ false
      → list_any (λ x. not (accepts x)) arguments ≡ false → All P (map term arguments)
  terms-are arguments known right =
      let k = each-fails _ (λ x. is_known_argument d x ≡ true) (λ x e. not-false _ e) arguments known in
      let s = each-fails _ (λ x. accepts x ≡ true) (λ x e. not-false _ e) arguments right in
      All-map P term arguments (λ i x below. term-is _ (k i x below) (s i x below))

  each-part : (p : Argument → Bool) (xs : List SignedAtom) → list_any p (arguments_of xs) ≡ false
      → All (λ x. list_any p x.atom.arguments ≡ false) xs
  each-part p xs none = each-fails _ _ (λ x e. e) xs (sym (list_any_flat p (λ x. x.atom.arguments) xs) ∙ none)

  atoms-are : {manner : Manner} (xs : List SignedAtom) → AreRight d manner xs → list_any (λ x. not (accepts x)) (arguments_of xs) ≡ false
      → All (λ atom. HasArity (own_problem d) atom × All P atom.args) (map (atom_of d variables) xs)
  atoms-are xs are right =
      let n = each-fails _ (λ x. has_name x.atom.predicate d.names.predicates ≡ true) (λ x e. not-false _ e) xs are.declared in
      let r = each-fails (has_other_arity d) (λ x. has_other_arity d x ≡ false) (λ x e. e) xs are.arity in
      let k = each-part (λ y. not (is_known_argument d y)) xs are.known in let s = each-part (λ y. not (accepts y)) xs right in
      All-map (λ atom. HasArity (own_problem d) atom × All P atom.args) (atom_of d variables) xs (λ i e below.
      let b = number-below _ d.names.predicates (n i e below) in
      let size = length-map (slice_index_or xs i e).atom.arguments term ∙ eqb-true _ _ (not-false _ (r i e below)) in
      ((omega (arith, b, predicates), size), terms-are _ (k i e below) (s i e below)))

-- ---- the atoms of a line

-- the atoms of a line are these
pub record HasAtoms (l : Line) (xs : List SignedAtom) : Type 0 where
  pub atoms : forms.line_atoms l ≡ xs ++ []
  pub arguments : forms.arguments_of l ≡ arguments_of xs ++ []

of-items : {A : Type 0} (p : A → Bool) (all xs : List A) → all ≡ xs ++ [] → list_any p all ≡ false → list_any p xs ≡ false
of-items p all xs is none = ap (list_any p) (sym (append-nil xs) ∙ sym is) ∙ none

pub atoms-right : (d : Declared) (s : Statement) (xs : List SignedAtom) → HasAtoms (line_of s) xs → IsRight d s
    → AreRight d (line_of s).manner xs
atoms-right d s xs has right = let outer = or_parts _ _ right.known in let inner = or_parts _ _ outer.0 in
    record {
      declared = of-items _ (forms.line_atoms (line_of s)) xs has.atoms inner.0;
      known = of-items _ (forms.arguments_of (line_of s)) (arguments_of xs) has.arguments inner.1;
      arity = of-items _ (forms.line_atoms (line_of s)) xs has.atoms right.arity;
      bound = of-items _ (forms.arguments_of (line_of s)) (arguments_of xs) has.arguments right.bound;
    }

pub empty-length : {A : Type 0} (xs : List A) → length xs ≡ 0 → is_empty xs ≡ true
empty-length [] e = refl
empty-length (x ∷ xs) e = absurd (omega (arith, e))

-- there are no variables where there is no object
pub no-variable : (d : Declared) (l : Line) (xs : List SignedAtom) → HasAtoms l xs → varies_too_early d l ≡ false
    → length d.names.objects ≡ 0 → list_any is_variable (arguments_of xs) ≡ false
no-variable d l xs has early none =
    let still : (varies l && true) ≡ false = ap (λ b. varies l && b) (sym (empty-length d.names.objects none)) ∙ early in
    let plain = or_parts (list_any is_variable (forms.arguments_of l)) _ (and-true (varies l) still) in
    of-items is_variable (forms.arguments_of l) (arguments_of xs) has.arguments plain.0
  where
    and-true : (b : Bool) → (b && true) ≡ false → b ≡ false
    and-true true e = e
    and-true false e = refl

pub no-variables : (d : Declared) (l : Line) (xs : List SignedAtom) → HasAtoms l xs → varies_too_early d l ≡ false
    → length d.names.objects ≡ 0 → length (variable_names_of xs) ≡ 0
no-variables d l xs has early none = ap length (variables-none (arguments_of xs) (no-variable d l xs has early none))

none-few : (n : ℕ) → 0 ≤ n
none-few n = omega arith

module _ (d : Declared) (r : AreInRange d) (xs : List SignedAtom) where
  -- a line whose atoms have names alone as arguments
  pub atoms-with : (manner : Manner) → takes d manner anything ≡ false → ((v : List ℕ) → takes d manner (open_variable v) ≡ false)
      → (variable_count : ℕ) → length (parameters_here d) ≤ variable_count → AreRight d manner xs → All (IsAtomOf (own_problem d) variable_count) (map (atom_of d []) xs)
  atoms-with manner wild variable variable_count parameters right =
      atoms-are d r.problem.predicates [] variable_count (takes d manner) (IsTermOf (own_problem d) variable_count) (search (none-few, both_answers))
      xs right right.bound

  pub patterns-with : (variable_count : ℕ) → length (parameters_here d) ≤ variable_count → AreRight d patterns xs
      → All (IsPatternOf (own_problem d) variable_count) (map (atom_of d []) xs)
  patterns-with variable_count parameters right =
      atoms-are d r.problem.predicates [] variable_count (takes d patterns) (IsPatternTermOf (own_problem d) variable_count) (search none-few)
      xs right right.bound

  -- atoms with variables, numbered as they occur, and without a wild card
  pub atoms-open : parameters_here d ≡ [] → (manner : Manner) → takes d manner anything ≡ false → AreRight d manner xs
      → All (IsAtomOf (own_problem d) (length (variable_names_of xs))) (map (atom_of d (variable_names_of xs)) xs)
  atoms-open none manner wild right =
      let here : length (parameters_here d) ≤ length (variable_names_of xs) = omega (arith, ap length none) in
      atoms-are d r.problem.predicates (variable_names_of xs) (length (variable_names_of xs)) (is_listed (variable_names_of xs))
      (IsTermOf (own_problem d) (length (variable_names_of xs)))
      (record { object = λ k b. b; variable = λ k b. b; wild = λ e. cc; bound = λ v e. e; parameters = here; few = omega arith })
      xs right
      (listed-in (arguments_of xs) [] (variable_names_of xs) refl (list_any_none _ (arguments_of xs)
      (each-fails _ _ term-only (arguments_of xs) right.bound)))
    where
      term-only : (a : Argument) → not (takes d manner a) ≡ false → not (is_term a) ≡ false
      term-only anything e = both_answers (takes d manner anything) wild (not-false (takes d manner anything) e)
      term-only _ e = refl
