-- The reader by the table reads exactly the forms of lines: each spelling back, and nothing else.
use Rattle.px_script.proofs.Common.{◌≡◌, ℕ, Bool, true, false, List, [], ◌∷◌, ◌++◌, map, length, drop, refl, sym, ap, ◌∙◌, subst, append_assoc, append-nil, flat_map-append, Option, None, Some, is_some, AllByRecursion, list_any, flat_map, option_map, option_and_then, IfSome, bytes_eq, if◌then◌else◌, ◌||◌, not-true, and_parts, Lexeme, name, number, spell, spell_atom, spell_binding, spell_room_edit, is_word, Line, line_of, spelling, Declared, has_building, Forms, is_formed, Statement, spell_pair, step, proof, spell_part, not, ◌&&◌, nat_le, words_of_all, words_of_two, words_of_three, list_any-append, nat_tests, arith, ◌<◌, ◌≤◌}
use Rattle.px_script.specs.Items.{listed}
use Rattle.px_script.specs.Statements.{spelling_of, door, ask, disturb_atoms, disturb_rooms, run, duo, edit}
use Rattle.px_script.specs.declared.kinds.One.{One}
use Rattle.px_script.specs.declared.kinds.One.TheVariants as one
use Rattle.px_script.specs.declared.kinds.Last.{Last}
use Rattle.px_script.specs.declared.kinds.Last.TheVariants as last
use Rattle.px_script.proofs.Lists.{by_test}
use Rattle.px_script.specs.Parsing.{names_of, names_at, at_end, all_of, atom_at, binding_at, room_edit_at, numbers_of, pair_at, items_at, argument_of, part_at}
use Rattle.px_script.specs.Rows.{Row, Entry, chosen, one_of, ones_at, last_at, row_items, entries, entries_of_all, entries_of_two, entries_of_three, is_of, entry_among, entry_of, row_of, filled, line_by, line_at, formed_only, formed_line, statement_of, parse}
use Rattle.px_script.proofs.Rows.{IsMade, all-made, ask-entry}
use Rattle.px_script.proofs.Forms.{IsWellFormed, well-formed, then-there, map-there, if-there, same_word, there, all-sound, names-again, names-sound, names-at-sound, parameters-again, atoms-again, edits-again, bindings-again, atom-sound, binding-sound, room-edit-sound, numbers-again, numbers-sound, pairs-again, pair-sound, part-sound, parts-again, arguments-all-sound, arguments-all-again}

-- ---- what is read by a row is spelled so: once for all words

one-sound : (o : One) (x : Lexeme) → IfSome (one_of o x) (λ item. x ∷ [] ≡ spell item)
one-sound (one.Word words) (name w) = if-there _ _ _ (chosen words w) (λ e. refl) (λ e. tt)
one-sound one.Number (number n) = refl
one-sound (one.New kind) (name n) = refl
one-sound (one.Known kind) (name n) = refl
one-sound _ _ = tt

ones-sound : (ones : List One) (lexemes : List Lexeme)
    → IfSome (ones_at ones lexemes) (λ items. lexemes ≡ flat_map spell items ++ drop (length ones) lexemes)
ones-sound [] lexemes = refl
ones-sound (o ∷ more) [] = tt
ones-sound (o ∷ more) (x ∷ xs) = then-there _ _ (one_of o x) (one-sound o x) (λ item first.
    map-there _ _ (ones_at more xs) (ones-sound more xs) (λ items rest.
    ap (λ t. x ∷ t) rest ∙ ap (λ t. t ++ (flat_map spell items ++ drop (length more) xs)) first
    ∙ sym (append_assoc (spell item) (flat_map spell items) (drop (length more) xs))))

last-sound : (l : Last) (lexemes : List Lexeme) → IfSome (last_at l lexemes) (λ items. lexemes ≡ flat_map spell items)
last-sound last.Nothing [] = refl
last-sound last.Nothing (x ∷ xs) = tt
last-sound (last.New kind) xs = map-there _ _ (names_of xs) (names-sound xs) (λ ns is. is ∙ sym (append-nil (map name ns)))
last-sound (last.Listed kind) xs =
    map-there _ _ (option_and_then at_end (names_at xs)) (then-there _ at_end (names_at xs) (names-at-sound xs) (λ r is. ends r.0 r.1 is))
    (λ ns is. is)
  where
    ends : (ns : List (List ℕ)) (after : List Lexeme) → xs ≡ spell (listed kind ns) ++ after
        → IfSome (at_end (ns, after)) (λ ns. xs ≡ spell (listed kind ns) ++ [])
    ends ns [] is = is
    ends ns (y ∷ ys) is = tt
last-sound (last.Known kind) xs = map-there _ _ (names_of xs) (names-sound xs) (λ ns is. is ∙ sym (append-nil (map name ns)))
last-sound last.Numbers xs = map-there _ _ (numbers_of xs) (numbers-sound xs) (λ ns is. is ∙ sym (append-nil (map number ns)))
last-sound last.Atoms xs = map-there _ _ (all_of atom_at xs) (all-sound atom_at spell_atom atom-sound (length xs) xs)
    (λ items is. is ∙ sym (append-nil (flat_map spell_atom items)))
last-sound last.Bindings xs = map-there _ _ (all_of binding_at xs) (all-sound binding_at spell_binding binding-sound (length xs) xs)
    (λ items is. is ∙ sym (append-nil (flat_map spell_binding items)))
last-sound last.Pairs xs = map-there _ _ (all_of pair_at xs) (all-sound pair_at spell_pair pair-sound (length xs) xs)
    (λ items is. is ∙ sym (append-nil (flat_map spell_pair items)))
last-sound last.Arguments xs = map-there _ _ (option_and_then at_end (items_at argument_of xs)) (arguments-all-sound xs)
    (λ items is. is)
last-sound last.Proofs xs = map-there _ _ (all_of part_at xs) (all-sound part_at spell_part part-sound (length xs) xs)
    (λ items is. is ∙ sym (append-nil (flat_map spell_part items)))
last-sound last.RoomEdits xs =
    map-there _ _ (all_of room_edit_at xs) (all-sound room_edit_at spell_room_edit room-edit-sound (length xs) xs)
    (λ items is. is ∙ sym (append-nil (flat_map spell_room_edit items)))

items-sound : (r : Row) (lexemes : List Lexeme) → IfSome (row_items r lexemes) (λ items. lexemes ≡ flat_map spell items)
items-sound r lexemes = then-there _ _ (ones_at r.ones lexemes) (ones-sound r.ones lexemes) (λ items front.
    map-there _ _ (last_at r.last (drop (length r.ones) lexemes)) (last-sound r.last (drop (length r.ones) lexemes)) (λ more rest.
    front ∙ ap (λ t. flat_map spell items ++ t) rest ∙ sym (flat_map-append spell items more)))

-- ---- the row of a word has that word

-- what the first entry of a word has, where all have it
among-there : (P : Entry → Type 0) (w : List ℕ) (es : List Entry) → AllByRecursion P es
    → IfSome (entry_among w es) (λ e. (w ≡ e.row.word) × P e)
among-there P w [] all = tt
among-there P w (e ∷ more) all = if-there _ _ _ (bytes_eq w e.row.word) (λ same. (same_word w e.row.word same, all.0))
    (λ other. among-there P w more all.1)

or-some : (b : Bool) (e : Entry) (w : List ℕ) (more : List Entry)
    → is_some (option_map (λ e. e.row) (entry_among w more)) ≡ list_any (bytes_eq w) (map (λ (e : Entry). e.row.word) more)
    → is_some (option_map (λ e. e.row) (if b then Some e else entry_among w more))
    ≡ (b || list_any (bytes_eq w) (map (λ (e : Entry). e.row.word) more))
or-some true e w more is = refl
or-some false e w more is = is

-- a word has a row where it is one of the table's
some-among : (w : List ℕ) (es : List Entry)
    → is_some (option_map (λ e. e.row) (entry_among w es)) ≡ list_any (bytes_eq w) (map (λ (e : Entry). e.row.word) es)
some-among w [] = refl
some-among w (e ∷ more) = or-some (bytes_eq w e.row.word) e w more (some-among w more)

-- the word of the row is one of the version's, where there is a row
abbrev pub has_word : ℕ → Option Row → Bool
has_word version None = false
has_word version (Some r) = is_of version r

abbrev among : ℕ → List ℕ → List Entry → Bool
among version w es = has_word version (option_map (λ e. e.row) (entry_among w es))

abbrev word_in : List ℕ → List Entry → Bool
word_in w es = list_any (bytes_eq w) (map (λ (e : Entry). e.row.word) es)

-- among words that the version has, and among others
all-of : (version : ℕ) (w : List ℕ) (es more : List Entry) → AllByRecursion (λ (e : Entry). is_of version e.row ≡ true) es
    → among version w (es ++ more) ≡ (word_in w es || among version w more)
all-of version w [] more are = refl
all-of version w (e ∷ es) more are = by_test (bytes_eq w e.row.word) (λ same. rw (same, are.0) refl)
    (λ other. rw other (all-of version w es more are.1))

none-of : (version : ℕ) (w : List ℕ) (es more : List Entry) → AllByRecursion (λ (e : Entry). is_of version e.row ≡ false) es
    → among version w (es ++ more) ≡ (not (word_in w es) && among version w more)
none-of version w [] more are = refl
none-of version w (e ∷ es) more are = by_test (bytes_eq w e.row.word) (λ same. rw (same, are.0) refl)
    (λ other. rw other (none-of version w es more are.1))

and-false : (b : Bool) → (b && false) ≡ false
and-false true = refl
and-false false = refl

or-false : (b : Bool) → (b || false) ≡ b
or-false true = refl
or-false false = refl

-- the words of a version are those of the table that it has
pub row-is_word : (version : ℕ) (b : Bool) (w : List ℕ) → has_word version (row_of b w) ≡ is_word version w
row-is_word version b w = all-of version w (entries_of_all b) (entries_of_two ++ entries_of_three) (search depth 60)
    ∙ ap (λ c. word_in w (entries_of_all b) || c) (newer-words (nat_le 2 version) (nat_le 3 version) refl refl)
    ∙ sym (list_any-append (bytes_eq w) words_of_all _)
  where
    newer-words : (two three : Bool) → nat_le 2 version ≡ two → nat_le 3 version ≡ three
        → among version w (entries_of_two ++ entries_of_three)
        ≡ list_any (bytes_eq w) ((if two then words_of_two else []) ++ (if three then words_of_three else []))
    newer-words true true two three = all-of version w entries_of_two entries_of_three (search depth 20)
        ∙ ap (λ c. word_in w entries_of_two || c) (all-of version w entries_of_three [] (search depth 6))
        ∙ ap (λ c. word_in w entries_of_two || c) (or-false (word_in w entries_of_three))
        ∙ sym (list_any-append (bytes_eq w) words_of_two words_of_three)
    newer-words true false two three = all-of version w entries_of_two entries_of_three (search depth 20)
        ∙ ap (λ c. word_in w entries_of_two || c)
        (none-of version w entries_of_three [] (search depth 6) ∙ and-false (not (word_in w entries_of_three)))
        ∙ sym (list_any-append (bytes_eq w) words_of_two [])
    newer-words false false two three = none-of version w entries_of_two entries_of_three (search depth 20)
        ∙ ap (λ c. not (word_in w entries_of_two) && c)
        (none-of version w entries_of_three [] (search depth 6) ∙ and-false (not (word_in w entries_of_three)))
        ∙ and-false (not (word_in w entries_of_two))
    newer-words false true two three = absurd (impossible two three)
      where
        impossible : nat_le 2 version ≡ false → nat_le 3 version ≡ true → ⊥
        impossible two three = let most : 3 ≤ version = grind (arith, nat_tests, three) in
            let least : version < 2 = grind (arith, nat_tests, two) in omega (arith, most, least)

-- the row of a word is the row of its own word
pub has-row : (b : Bool) (w : List ℕ) → IfSome (row_of b w) (λ r. row_of b r.word ≡ Some r)
has-row b w = told (entry_of b w) refl (among-there IsMade w (entries b) (all-made b))
  where
    told : (o : Option Entry) → entry_of b w ≡ o → IfSome o (λ e. (w ≡ e.row.word) × IsMade e)
        → IfSome (option_map (λ (e : Entry). e.row) o) (λ r. row_of b r.word ≡ Some r)
    told None found is = tt
    told (Some e) found is = ap (option_map (λ (e : Entry). e.row)) (subst (λ v. entry_of b v ≡ Some e) is.0 found)

-- and that word is the one that was looked for
pub row-word : (b : Bool) (w : List ℕ) → IfSome (row_of b w) (λ r. w ≡ r.word)
row-word b w = map-there (λ (r : Row). w ≡ r.word) (λ (e : Entry). e.row) (entry_of b w) (among-there IsMade w (entries b) (all-made b))
    (λ e is. is.0)

-- ---- each line is read back: its row takes its items, and they make it

-- a line in its form is read back by the table
line-again : (d : Declared) (s : Statement) → IsWellFormed d (line_of s) → line_at (has_building d) (spelling s) ≡ Some (line_of s)
line-again d (door n one other true) formed = refl
line-again d (door n one other false) formed = refl
line-again d (disturb_atoms turn true xs) formed = rw (not-true (has_building d) formed.of_script, atoms-again xs) refl
line-again d (disturb_atoms turn false xs) formed = rw (not-true (has_building d) formed.of_script, atoms-again xs) refl
line-again d (disturb_rooms turn true es) formed = rw (formed.of_script, edits-again es) refl
line-again d (disturb_rooms turn false es) formed = rw (formed.of_script, edits-again es) refl
line-again d (ask about n) formed = ap (λ (o : Option Entry). option_and_then (line_by (name n ∷ [])) (option_map (λ e. e.row) o))
    (ask-entry (has_building d) about).1
line-again d (duo one other ns) formed = rw (numbers-again ns) refl
line-again d (run n bs) formed = rw (bindings-again bs (and_parts _ true formed.filled).0) refl
line-again d (step o ts) formed = rw (arguments-all-again ts) refl
line-again d (proof parts) formed = rw (parts-again parts) refl
line-again d (edit n source prefix ps) formed = rw (pairs-again ps) refl
line-again d _ formed = search (names-again, atoms-again, parameters-again)

-- and its items make it
made-again : (d : Declared) (s : Statement) → IsWellFormed d (line_of s) → statement_of (has_building d) (line_of s) ≡ Some s
made-again d (door n one other true) formed = refl
made-again d (door n one other false) formed = refl
made-again d (disturb_atoms turn true xs) formed = rw (not-true (has_building d) formed.of_script) refl
made-again d (disturb_atoms turn false xs) formed = rw (not-true (has_building d) formed.of_script) refl
made-again d (disturb_rooms turn true es) formed = rw formed.of_script refl
made-again d (disturb_rooms turn false es) formed = rw formed.of_script refl
made-again d (ask about n) formed = ap (λ (o : Option Entry). option_and_then (λ e. e.make (line_of (ask about n)).items) o)
    (ask-entry (has_building d) about).1
made-again d _ formed = refl

-- so the statement of a line in its form undoes its description
pub made-of : (d : Declared) (s : Statement) → is_formed d (line_of s) ≡ true → statement_of (has_building d) (line_of s) ≡ Some s
made-of d s formed = made-again d s (well-formed d (line_of s) formed)

pub parse-complete : (d : Declared) (lexemes : List Lexeme) (s : Statement) → Forms d lexemes s → parse d lexemes ≡ Some s
parse-complete d lexemes s forms = let formed = well-formed d (line_of s) forms.1 in
    ap (parse d) forms.0
    ∙ ap (λ o. option_and_then (statement_of (has_building d)) (option_and_then (formed_only d) o)) (line-again d s formed)
    ∙ ap (option_and_then (statement_of (has_building d))) only ∙ made-of d s forms.1
  where
    only : formed_only d (line_of s) ≡ Some (line_of s)
    only = rw forms.1 refl

-- ---- what is read is spelled so, and is the description of the statement that it makes

-- what a line that was read is
abbrev pub IsLineOf : Bool → List Lexeme → Line → Type 0
IsLineOf b lexemes l = (lexemes ≡ spelling_of l) × ((s : Statement) → statement_of b l ≡ Some s → line_of s ≡ l)

read-by : (b : Bool) (w : List ℕ) (rest : List Lexeme) (o : Option Entry) → entry_of b w ≡ o
    → IfSome o (λ e. (w ≡ e.row.word) × IsMade e)
    → IfSome (option_and_then (line_by rest) (option_map (λ e. e.row) o)) (IsLineOf b (name w ∷ rest))
read-by b w rest None found is = tt
read-by b w rest (Some e) found is = map-there (IsLineOf b (name w ∷ rest)) (filled e.row) (row_items e.row rest) (items-sound e.row rest)
    (λ items spelled. (
      ap (λ t. name w ∷ t) spelled ∙ ap (λ v. name v ∷ flat_map spell items) is.0,
      λ s made. there (λ s. line_of s ≡ filled e.row items) (e.make items) s (is.1 items)
          (sym (ap (option_and_then (λ x. x.make items)) (subst (λ v. entry_of b v ≡ Some e) is.0 found)) ∙ made),
    ))

line-sound : (b : Bool) (lexemes : List Lexeme) → IfSome (line_at b lexemes) (IsLineOf b lexemes)
line-sound b (name w ∷ rest) = read-by b w rest (entry_of b w) refl (among-there IsMade w (entries b) (all-made b))
line-sound b _ = tt

-- a line in its form that was read is so, too
pub formed-sound : (d : Declared) (lexemes : List Lexeme)
    → IfSome (formed_line d lexemes) (λ l. IsLineOf (has_building d) lexemes l × (is_formed d l ≡ true))
formed-sound d lexemes = then-there _ (formed_only d) (line_at (has_building d) lexemes) (line-sound (has_building d) lexemes)
    (λ l is. if-there _ _ _ (is_formed d l) (λ formed. (is, formed)) (λ e. tt))

pub parse-sound : (d : Declared) (lexemes : List Lexeme) (s : Statement) → parse d lexemes ≡ Some s → Forms d lexemes s
parse-sound d lexemes s e = let P : Statement → Type 0 = Forms d lexemes in
    there P (parse d lexemes) s (then-there P (statement_of (has_building d)) (formed_line d lexemes) (formed-sound d lexemes)
    (λ l is. told l is.0 is.1 (statement_of (has_building d) l) refl)) e
  where
    told : (l : Line) → IsLineOf (has_building d) lexemes l → is_formed d l ≡ true → (o : Option Statement)
        → statement_of (has_building d) l ≡ o → IfSome o (Forms d lexemes)
    told l is formed None made = tt
    told l is formed (Some s) made = let same : line_of s ≡ l = is.1 s made in
        (is.0 ∙ ap spelling_of (sym same), ap (is_formed d) same ∙ formed)
