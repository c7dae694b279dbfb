-- What the table's reader reads is the line of a statement: the items of each word make one.
use Rattle.px_script.proofs.Common.{◌≡◌, ◌∙◌, ℕ, Bool, true, false, List, [], ◌∷◌, ◌++◌, length, drop, refl, sym, ap, subst, Option, None, Some, IfSome, is_some, option_map, option_and_then, AllByRecursion, bytes_eq, ◌||◌, codes, if◌then◌else◌, Lexeme, name, number, SignedAtom, Binding, WrittenRoomEdit, Argument, Part, Statement, Line, line_of, Declared, has_building, is_formed, Forms}
use Rattle.px_script.specs.Items.{Item, the, amount, amounts, new, declared, listed, known, wanted, atoms, bindings, room_edits, pairs, arguments, proofs}
use Rattle.px_script.specs.Statements.{spelling_of}
use Rattle.px_script.specs.declared.kinds.One.{One}
use Rattle.px_script.specs.declared.kinds.One.TheVariants as one
use Rattle.px_script.specs.declared.kinds.Last.{Last}
use Rattle.px_script.specs.declared.kinds.Last.TheVariants as last
use Rattle.px_script.proofs.Forms.{there, then-there, map-there, if-there}
use Rattle.px_script.specs.Parsing.{all_of, argument_of, at_end, atom_at, binding_at, items_at, names_at, names_of, numbers_of, pair_at, part_at, room_edit_at, which}
use Rattle.px_script.proofs.ReadRows.{IsLineOf, formed-sound, parse-complete, row-word}
use Rattle.px_script.specs.Rows.{Row, Entry, chosen, disturb_row, entries, entry_among, entry_of, filled, formed_line, formed_only, last_at, line_at, line_by, make_disturb, one_of, ones_at, parse, row_items, statement_of}

-- whatever tokens of these kinds say, P holds of the items
abbrev EachOnes : List One → (List Item → Type 0) → Type 0
EachOnes [] P = P []
EachOnes (one.Word words ∷ ones) P = (w : List ℕ) → chosen words w ≡ true → EachOnes ones (λ items. P (the w ∷ items))
EachOnes (one.Number ∷ ones) P = (n : ℕ) → EachOnes ones (λ items. P (amount n ∷ items))
EachOnes (one.New kind ∷ ones) P = (n : List ℕ) → EachOnes ones (λ items. P (new kind n ∷ items))
EachOnes (one.Known kind ∷ ones) P = (n : List ℕ) → EachOnes ones (λ items. P (known kind n ∷ items))

abbrev EachLast : Last → (List Item → Type 0) → Type 0
EachLast last.Nothing P = P []
EachLast (last.New kind) P = (ns : List (List ℕ)) → P (declared kind ns ∷ [])
EachLast (last.Listed kind) P = (ns : List (List ℕ)) → P (listed kind ns ∷ [])
EachLast (last.Known kind) P = (ns : List (List ℕ)) → P (wanted kind ns ∷ [])
EachLast last.Numbers P = (ns : List ℕ) → P (amounts ns ∷ [])
EachLast last.Atoms P = (xs : List SignedAtom) → P (atoms xs ∷ [])
EachLast last.Bindings P = (bs : List Binding) → P (bindings bs ∷ [])
EachLast last.Pairs P = (ps : List (ℕ × ℕ)) → P (pairs ps ∷ [])
EachLast last.Arguments P = (ts : List Argument) → P (arguments ts ∷ [])
EachLast last.Proofs P = (parts : List Part) → P (proofs parts ∷ [])
EachLast last.RoomEdits P = (es : List WrittenRoomEdit) → P (room_edits es ∷ [])

any-map : {A B : Type 0} (P : B → Type 0) (f : A → B) (o : Option A) → ((a : A) → P (f a)) → IfSome (option_map f o) P
any-map P f None all = tt
any-map P f (Some a) all = all a

one-there : (o : One) (ones : List One) (P : List Item → Type 0) → EachOnes (o ∷ ones) P → (x : Lexeme)
    → IfSome (one_of o x) (λ item. EachOnes ones (λ items. P (item ∷ items)))
one-there (one.Word words) ones P all (name w) =
    if-there (λ item. EachOnes ones (λ items. P (item ∷ items))) _ _ (chosen words w) (λ e. all w e) (λ e. tt)
one-there one.Number ones P all (number n) = all n
one-there (one.New kind) ones P all (name n) = all n
one-there (one.Known kind) ones P all (name n) = all n
one-there _ ones P all _ = tt

ones-there : (ones : List One) (P : List Item → Type 0) → EachOnes ones P → (lexemes : List Lexeme) → IfSome (ones_at ones lexemes) P
ones-there [] P all lexemes = all
ones-there (o ∷ ones) P all [] = tt
ones-there (o ∷ ones) P all (x ∷ xs) =
    then-there P (λ item. option_map (λ items. item ∷ items) (ones_at ones xs)) (one_of o x) (one-there o ones P all x)
    (λ item each. map-there P (λ items. item ∷ items) (ones_at ones xs) (ones-there ones (λ items. P (item ∷ items)) each xs) (λ items is. is))

last-there : (l : Last) (P : List Item → Type 0) → EachLast l P → (xs : List Lexeme) → IfSome (last_at l xs) P
last-there last.Nothing P all [] = all
last-there last.Nothing P all (x ∷ xs) = tt
last-there (last.New kind) P all xs = any-map P (λ ns. declared kind ns ∷ []) (names_of xs) all
last-there (last.Listed kind) P all xs = any-map P (λ ns. listed kind ns ∷ []) (option_and_then at_end (names_at xs)) all
last-there (last.Known kind) P all xs = any-map P (λ ns. wanted kind ns ∷ []) (names_of xs) all
last-there last.Numbers P all xs = any-map P (λ ns. amounts ns ∷ []) (numbers_of xs) all
last-there last.Atoms P all xs = any-map P (λ xs. atoms xs ∷ []) (all_of atom_at xs) all
last-there last.Bindings P all xs = any-map P (λ bs. bindings bs ∷ []) (all_of binding_at xs) all
last-there last.Pairs P all xs = any-map P (λ ps. pairs ps ∷ []) (all_of pair_at xs) all
last-there last.Arguments P all xs = any-map P (λ ts. arguments ts ∷ []) (option_and_then at_end (items_at argument_of xs)) all
last-there last.Proofs P all xs = any-map P (λ parts. proofs parts ∷ []) (all_of part_at xs) all
last-there last.RoomEdits P all xs = any-map P (λ es. room_edits es ∷ []) (all_of room_edit_at xs) all

row-there : (r : Row) (P : List Item → Type 0) → EachOnes r.ones (λ items. EachLast r.last (λ more. P (items ++ more)))
    → (lexemes : List Lexeme) → IfSome (row_items r lexemes) P
row-there r P all lexemes =
    then-there P (λ items. option_map (λ more. items ++ more) (last_at r.last (drop (length r.ones) lexemes))) (ones_at r.ones lexemes)
    (ones-there r.ones (λ items. EachLast r.last (λ more. P (items ++ more))) all lexemes)
    (λ items each. map-there P (λ more. items ++ more) (last_at r.last (drop (length r.ones) lexemes))
    (last-there r.last (λ more. P (items ++ more)) each (drop (length r.ones) lexemes)) (λ more is. is))

-- whatever the row reads makes a statement
abbrev AlwaysMakes : Entry → Type 0
AlwaysMakes e = EachOnes e.row.ones (λ items. EachLast e.row.last (λ more. is_some (e.make (items ++ more)) ≡ true))

-- one of two words was chosen, so it is one
which-there : {A : Type 0} (f : Bool → A) (yes_word no_word w : List ℕ) → (bytes_eq w yes_word || bytes_eq w no_word) ≡ true
    → is_some (option_map f (which yes_word no_word w)) ≡ true
which-there f yes_word no_word w e = by_two (bytes_eq w yes_word) (bytes_eq w no_word) e
  where
    by_two : (a b : Bool) → (a || b) ≡ true → is_some (option_map f (if a then Some true else (if b then Some false else None))) ≡ true
    by_two true b e = refl
    by_two false true e = refl
    by_two false false e = cc

disturb-makes : (b : Bool) → AlwaysMakes (record { row = disturb_row b; make = make_disturb b })
disturb-makes true = λ turn w is es. which-there _ (codes "between") (codes "before") w is
disturb-makes false = λ turn w is xs. which-there _ (codes "between") (codes "before") w is

also : {A B : Type 0} → A → B → A × B
also a b = (a, b)

all-make : (b : Bool) → AllByRecursion AlwaysMakes (entries b)
all-make b = also (λ n. refl) (also (λ ns. refl) (also (λ p arity. refl) (also (λ xs. refl) (also (λ o ps. refl) (also (λ xs. refl)
    (also (λ xs. refl) (also (λ xs. refl) (also refl (also (λ r. refl)
    (also (λ d x y w is. which-there _ (codes "open") (codes "closed") w is) (also (λ x r. refl) (also (λ r. refl) (also refl (also (λ xs. refl)
    (also (λ n. refl) (also (λ n. refl) (also (λ n. refl) (also (λ n xs. refl) (also (λ n w is p. rw is refl) (also (λ n. refl)
    (also (disturb-makes b) (also (λ n bs. refl) (also refl
    (also (λ n ns. refl) (also (λ n ps. refl) (also (λ n k. refl) (also (λ o ts. refl) (also (λ xs. refl) (also (λ parts. refl)
    (also (λ n. refl) (also (λ n. refl) (also (λ n w is s k ps. rw is refl) (also (λ x y ns. refl) (also (λ n xs. refl)
    (also (λ n. refl) (also (λ n k xs. refl) tt))))))))))))))))))))))))))))))))))))

among : (P : Entry → Type 0) (w : List ℕ) (es : List Entry) → AllByRecursion P es → IfSome (entry_among w es) P
among P w [] all = tt
among P w (e ∷ more) all = if-there P _ _ (bytes_eq w e.row.word) (λ same. all.0) (λ other. among P w more all.1)

-- the line that a word's row reads makes a statement
line-makes : (b : Bool) (lexemes : List Lexeme) → IfSome (line_at b lexemes) (λ l. is_some (statement_of b l) ≡ true)
line-makes b (name w ∷ rest) = by_entry (entry_of b w) refl (among AlwaysMakes w (entries b) (all-make b)) (row-word b w)
  where
    by_entry : (o : Option Entry) → entry_of b w ≡ o → IfSome o AlwaysMakes → IfSome (option_map (λ (e : Entry). e.row) o) (λ r. w ≡ r.word)
        → IfSome (option_and_then (line_by rest) (option_map (λ (e : Entry). e.row) o)) (λ l. is_some (statement_of b l) ≡ true)
    by_entry None is makes same = tt
    by_entry (Some e) is makes same = let found = subst (λ v. entry_of b v ≡ Some e) same is in
        map-there (λ l. is_some (statement_of b l) ≡ true) (filled e.row) (row_items e.row rest)
        (row-there e.row (λ items. is_some (e.make items) ≡ true) makes rest)
        (λ items made. ap (λ (o : Option Entry). is_some (option_and_then (λ x. x.make items) o)) found ∙ made)
line-makes b _ = tt

module _ (d : Declared) (lexemes : List Lexeme) where
  formed-makes : IfSome (formed_line d lexemes) (λ l. is_some (statement_of (has_building d) l) ≡ true)
  formed-makes = then-there _ (formed_only d) (line_at (has_building d) lexemes) (line-makes (has_building d) lexemes)
      (λ l makes. if-there (λ l. is_some (statement_of (has_building d) l) ≡ true) _ _ (is_formed d l) (λ formed. makes) (λ e. tt))

  -- the line in its form that is read is that of a statement that the lexemes are
  pub formed-statement : (l : Line) → Some l ≡ formed_line d lexemes → (s : Statement) × Forms d lexemes s × (l ≡ line_of s)
  formed-statement l e = by_made (statement_of (has_building d) l) refl
      (there (λ l. is_some (statement_of (has_building d) l) ≡ true) (formed_line d lexemes) l formed-makes (sym e))
    where
      by_made : (o : Option Statement) → statement_of (has_building d) l ≡ o → is_some o ≡ true
          → (s : Statement) × Forms d lexemes s × (l ≡ line_of s)
      by_made None is made = cc
      by_made (Some s) is made =
          let sound = there (λ l. IsLineOf (has_building d) lexemes l × (is_formed d l ≡ true)) (formed_line d lexemes) l
          (formed-sound d lexemes) (sym e) in
          let same : line_of s ≡ l = sound.0.1 s is in
          (s, (sound.0.0 ∙ ap spelling_of (sym same), ap (is_formed d) same ∙ sound.1), sym same)

  -- and where none is read, they are no statement
  pub formed-nothing : None ≡ formed_line d lexemes → (s : Statement) → ¬ Forms d lexemes s
  formed-nothing e s forms = let p = parse-complete d lexemes s forms in
      let none : parse d lexemes ≡ None = ap (option_and_then (statement_of (has_building d))) (sym e) in cc
