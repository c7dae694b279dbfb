-- The statement that a line's items are by the table of the words is described by that line.
use Rattle.px_script.proofs.Common.{◌≡◌, refl, sym, ap, ◌∙◌, AllByRecursion, IfSome, line_of, open_word, time_word, SignedAtom, ℕ, Bool, true, false, List, [], ◌∷◌, Option, Some, codes, bytes_eq, option_map, Line, Statement, inside, plain, goals, atom_changes, operator_block, building_block, script, «axiom», operator, end, fact, table, step, goal, proof, table_terms, table_steps, table_rows}
use Rattle.px_script.specs.Items.{Item, the, amount, amounts, new, declared, listed, known, wanted, atoms, bindings, room_edits, an_object, a_predicate, an_operator, a_parameter, a_sort, a_room as room_name, a_door as door_name, a_box as box_name, a_plan, a_table, pairs, a_result, arguments, proofs}
use Rattle.px_script.specs.Statements.{room_changes, line, domain, opens, command, object, predicate, pre, delete, add, building, room, door, box, robot, height, nodes, shapes, weight, plan, learn, About, Show, Save, Certify, ask_word, disturb_atoms, disturb_rooms, run, facts, sort, param, duo, edit, pursue, tree}
use Rattle.px_script.proofs.Forms.{map-there, if-there, same_word, which-sound}
use Rattle.px_script.specs.Parsing.{which}
use Rattle.px_script.specs.Rows.{Entry, asking_row, disturb_row, entries, entry_of, filled, make_ask, make_atoms, make_box, make_disturb, make_door, make_duo, make_edit, make_learn, make_nothing, make_number, make_object, make_operator, make_param, make_plan, make_predicate, make_proof, make_pursue, make_robot, make_room, make_run, make_sort, make_step, make_table, make_tree, newer, row}

-- what a word's items make is described so
abbrev Makes : (List Item → Option Statement) → (List Item → Line) → Type 0
Makes make l = (items : List Item) → IfSome (make items) (λ s. line_of s ≡ l items)

-- which of two words it is
chosen-word : (word : Bool → List ℕ) (w : List ℕ) (f : Bool → Statement) (l : List ℕ → Line) → ((b : Bool) → line_of (f b) ≡ l (word b))
    → IfSome (option_map f (which (word true) (word false) w)) (λ s. line_of s ≡ l w)
chosen-word word w f l is = map-there _ _ (which (word true) (word false) w) (which-sound word w)
    (λ b same. is b ∙ ap l (sym same))

made-number : (f : ℕ → Statement) (l : List Item → Line) → ((n : ℕ) → line_of (f n) ≡ l (amount n ∷ [])) → Makes (make_number f) l
made-number f l is (amounts (n ∷ []) ∷ []) = is n
made-number f l is _ = tt

made-object : Makes make_object (line (codes "object") domain plain)
made-object (declared an_object ns ∷ []) = refl
made-object _ = tt

made-predicate : Makes make_predicate (line (codes "predicate") domain plain)
made-predicate (declared a_predicate (p ∷ []) ∷ amounts (arity ∷ []) ∷ []) = refl
made-predicate _ = tt

made-operator : Makes make_operator (line (codes "operator") (opens operator_block) plain)
made-operator (declared an_operator (o ∷ []) ∷ listed a_parameter ps ∷ []) = refl
made-operator _ = tt

made-atoms : (f : List SignedAtom → Statement) (l : List Item → Line) → ((xs : List SignedAtom) → line_of (f xs) ≡ l (atoms xs ∷ []))
    → Makes (make_atoms f) l
made-atoms f l is (atoms xs ∷ []) = is xs
made-atoms f l is _ = tt

made-nothing : (s : Statement) (l : List Item → Line) → line_of s ≡ l [] → Makes (make_nothing s) l
made-nothing s l is [] = is
made-nothing s l is _ = tt

made-room : Makes make_room (line (codes "room") (inside building_block) plain)
made-room (declared room_name (r ∷ []) ∷ []) = refl
made-room _ = tt

made-door : Makes make_door (line (codes "door") (inside building_block) plain)
made-door (declared door_name (d ∷ []) ∷ wanted room_name (one ∷ []) ∷ wanted room_name (other ∷ []) ∷ the w ∷ []) =
    chosen-word open_word w (door d one other) (λ v. line (codes "door") (inside building_block) plain
    (new door_name d ∷ known room_name one ∷ known room_name other ∷ the v ∷ [])) (λ b. refl)
made-door _ = tt

made-box : Makes make_box (line (codes "box") (inside building_block) plain)
made-box (declared box_name (b ∷ []) ∷ wanted room_name (r ∷ []) ∷ []) = refl
made-box _ = tt

made-robot : Makes make_robot (line (codes "robot") (inside building_block) plain)
made-robot (wanted room_name (r ∷ []) ∷ []) = refl
made-robot _ = tt

made-plan : Makes make_plan (line (codes "plan") command goals)
made-plan (declared a_plan (n ∷ []) ∷ atoms xs ∷ []) = refl
made-plan _ = tt

made-learn : Makes make_learn (line (codes "learn") command plain)
made-learn (declared a_table (n ∷ []) ∷ the w ∷ wanted a_plan (source ∷ []) ∷ []) =
    if-there _ _ _ (bytes_eq w (codes "from")) (λ e. rw (same_word w (codes "from") e) refl) (λ e. tt)
made-learn _ = tt

made-ask : (about : About) → Makes (make_ask about) (line (ask_word about) command plain)
made-ask about (wanted a_table (n ∷ []) ∷ []) = refl
made-ask about _ = tt

made-run : Makes make_run (line (codes "run") command plain)
made-run (wanted a_table (n ∷ []) ∷ bindings bs ∷ []) = refl
made-run _ = tt

made-sort : Makes make_sort (line (codes "sort") domain plain)
made-sort (declared a_sort (n ∷ []) ∷ declared an_object ns ∷ []) = refl
made-sort _ = tt

made-param : Makes make_param (line (codes "param") (inside operator_block) plain)
made-param (wanted a_sort (n ∷ []) ∷ wanted a_parameter ps ∷ []) = refl
made-param _ = tt

made-duo : Makes make_duo (line (codes "duo") command plain)
made-duo (wanted a_table (one ∷ []) ∷ wanted a_table (other ∷ []) ∷ amounts ns ∷ []) = refl
made-duo _ = tt

made-table : Makes make_table (line (codes "table") (opens table_steps) plain)
made-table (declared a_table (n ∷ []) ∷ amounts (parameters ∷ []) ∷ []) = refl
made-table _ = tt

made-step : Makes make_step (line (codes "step") (inside table_steps) table_terms)
made-step (wanted an_operator (o ∷ []) ∷ arguments ts ∷ []) = refl
made-step _ = tt

made-proof : Makes make_proof (line (codes "proof") (inside table_rows) table_terms)
made-proof (proofs parts ∷ []) = refl
made-proof _ = tt

made-edit : Makes make_edit (line (codes "edit") command plain)
made-edit (declared a_table (n ∷ []) ∷ the w ∷ wanted a_table (source ∷ []) ∷ amounts (prefix ∷ []) ∷ pairs ps ∷ []) =
    if-there _ _ _ (bytes_eq w (codes "from")) (λ e. rw (same_word w (codes "from") e) refl) (λ e. tt)
made-edit _ = tt

made-pursue : Makes make_pursue (line (codes "pursue") command goals)
made-pursue (declared a_result (n ∷ []) ∷ atoms xs ∷ []) = refl
made-pursue _ = tt

made-tree : Makes make_tree (line (codes "tree") command goals)
made-tree (declared a_result (n ∷ []) ∷ amounts (most ∷ []) ∷ atoms xs ∷ []) = refl
made-tree _ = tt

made-disturb : (b : Bool) → Makes (make_disturb b) (filled (disturb_row b))
made-disturb false (amounts (turn ∷ []) ∷ the w ∷ atoms xs ∷ []) =
    chosen-word time_word w (λ between. disturb_atoms turn between xs) (λ v. line (codes "disturb") command atom_changes
    (amount turn ∷ the v ∷ atoms xs ∷ [])) (λ b. refl)
made-disturb true (amounts (turn ∷ []) ∷ the w ∷ room_edits es ∷ []) =
    chosen-word time_word w (λ between. disturb_rooms turn between es) (λ v. line (codes "disturb") command room_changes
    (amount turn ∷ the v ∷ room_edits es ∷ [])) (λ b. refl)
made-disturb _ _ = tt

-- the line of a row is told by its items
abbrev pub IsMade : Entry → Type 0
IsMade e = (items : List Item) → IfSome (e.make items) (λ s. line_of s ≡ filled e.row items)

also : {A B : Type 0} → A → B → A × B
also a b = (a, b)

pub all-made : (b : Bool) → AllByRecursion IsMade (entries b)
all-made b = also (made-number script _ (λ n. refl)) (also made-object (also made-predicate (also (made-atoms «axiom» _ (λ xs. refl))
    (also made-operator (also (made-atoms pre _ (λ xs. refl)) (also (made-atoms delete _ (λ xs. refl)) (also (made-atoms add _ (λ xs. refl))
    (also (made-nothing building _ refl) (also made-room (also made-door (also made-box (also made-robot (also (made-nothing end _ refl)
    (also (made-atoms fact _ (λ xs. refl)) (also (made-number height _ (λ n. refl)) (also (made-number nodes _ (λ n. refl)) (also
    (made-number shapes _ (λ n. refl)) (also made-plan (also made-learn (also (made-ask Show) (also (made-disturb b) (also made-run (also
    (made-nothing facts _ refl) (also made-sort (also made-param (also made-table (also made-step
    (also (made-atoms goal _ (λ xs. refl)) (also made-proof (also (made-ask Save) (also (made-ask Certify) (also made-edit (also made-duo (also made-pursue (also
    (made-number weight _ (λ n. refl)) (also made-tree tt))))))))))))))))))))))))))))))))))))

-- each command that only names a table has its entry
abbrev pub IsAskEntry : About → Option Entry → Type 0
IsAskEntry about found =
    (version : ℕ) × (found ≡ Some (record { row = newer version (asking_row (ask_word about)); make = make_ask about }))

pub ask-entry : (b : Bool) (about : About) → IsAskEntry about (entry_of b (ask_word about))
ask-entry b Show = (1, refl)
ask-entry b _ = (2, refl)
