-- The table of the words: what each line has in which order, and the statement that items are; and a plain reader by the table.
use Rattle.std.specs.Prelude.{ℕ, Bool, true, false, List, [], ◌∷◌, ◌++◌, length, drop, ◌||◌, Option, None, Some, codes, if◌then◌else◌, ◌==◌, nat_le}
use Rattle.std.specs.Str.{bytes_eq}
use Rattle.std.specs.Option.{option_map, option_and_then}
use Rattle.px_script.specs.declared.kinds.Choice.TheVariants as choice
use Rattle.px_script.specs.declared.kinds.One.TheVariants as one
use Rattle.px_script.specs.declared.kinds.Last.TheVariants as last
use Rattle.px_script.specs.Items.{SignedAtom, Item, the, amount, amounts, new, declared, listed, known, wanted, atoms, bindings, room_edits, an_object, a_predicate, an_operator, a_parameter, a_sort, a_room as room_name, a_door as door_name, a_box as box_name, a_plan, a_table, pairs, a_result, arguments, proofs}
use Rattle.px_script.specs.Lexemes.{Lexeme, name, number}
use Rattle.px_script.specs.Statements.{Manner, Place, Line, Statement, inside, plain, patterns, literals, goals, atom_changes, operator_block, building_block, script, «axiom», operator, end, fact, table, step, goal, proof, table_terms, table_goals, table_steps, table_rows, room_changes, line, first, domain, setting, opens, closes, command, object, predicate, pre, delete, add, building, room, door, box, robot, height, nodes, shapes, weight, plan, learn, About, Show, Save, Certify, ask, disturb_atoms, disturb_rooms, run, facts, sort, param, duo, edit, pursue, tree}
use Rattle.px_script.specs.Declarations.{Declared, has_building}
use Rattle.px_script.specs.Forms.{is_formed}
use Rattle.px_script.specs.declared.kinds.Choice.{Choice}
use Rattle.px_script.specs.declared.kinds.One.{One}
use Rattle.px_script.specs.declared.kinds.Last.{Last}
use Rattle.px_script.specs.Parsing.{names_of, names_at, at_end, all_of, atom_at, binding_at, room_edit_at, open_of, time_of, nothing_form, numbers_of, pair_at, items_at, argument_of, part_at}

pub record Row : Type 0 where
  pub word : List ℕ
  -- the first version that has it
  pub since : ℕ
  pub place : Place
  pub manner : Manner
  pub ones : List One
  pub last : Last

abbrev pub row : List ℕ → Place → Manner → List One → Last → Row
row word place manner ones last = record { word = word; since = 1; place = place; manner = manner; ones = ones; last = last }

-- the row as one that this version is the first to have
abbrev pub newer : ℕ → Row → Row
newer version r = record r { since = version }

-- the version has the row's word
abbrev pub is_of : ℕ → Row → Bool
is_of version r = (r.since == 1) || nat_le r.since version

-- ---- reading by a row

abbrev pub chosen : Choice → List ℕ → Bool
chosen choice.Source w = bytes_eq w (codes "from")
chosen choice.State w = bytes_eq w (codes "open") || bytes_eq w (codes "closed")
chosen choice.Time w = bytes_eq w (codes "between") || bytes_eq w (codes "before")

-- what one token is
abbrev pub one_of : One → Lexeme → Option Item
one_of (one.Word words) (name w) = if chosen words w then Some (the w) else None
one_of one.Number (number n) = Some (amount n)
one_of (one.New kind) (name n) = Some (new kind n)
one_of (one.Known kind) (name n) = Some (known kind n)
one_of _ _ = None

-- what the first tokens are, one token each
abbrev pub ones_at : List One → List Lexeme → Option (List Item)
ones_at [] lexemes = Some []
ones_at (o ∷ more) [] = None
ones_at (o ∷ more) (x ∷ xs) = option_and_then (λ item. option_map (λ items. item ∷ items) (ones_at more xs)) (one_of o x)

-- what the tokens to the end of a line are: no item, or one
abbrev pub last_at : Last → List Lexeme → Option (List Item)
last_at last.Nothing lexemes = nothing_form [] lexemes
last_at (last.New kind) lexemes = option_map (λ ns. declared kind ns ∷ []) (names_of lexemes)
last_at (last.Listed kind) lexemes = option_map (λ ns. listed kind ns ∷ []) (option_and_then at_end (names_at lexemes))
last_at (last.Known kind) lexemes = option_map (λ ns. wanted kind ns ∷ []) (names_of lexemes)
last_at last.Numbers lexemes = option_map (λ ns. amounts ns ∷ []) (numbers_of lexemes)
last_at last.Atoms lexemes = option_map (λ xs. atoms xs ∷ []) (all_of atom_at lexemes)
last_at last.Bindings lexemes = option_map (λ bs. bindings bs ∷ []) (all_of binding_at lexemes)
last_at last.Pairs lexemes = option_map (λ ps. pairs ps ∷ []) (all_of pair_at lexemes)
last_at last.Arguments lexemes = option_map (λ ts. arguments ts ∷ []) (option_and_then at_end (items_at argument_of lexemes))
last_at last.Proofs lexemes = option_map (λ parts. proofs parts ∷ []) (all_of part_at lexemes)
last_at last.RoomEdits lexemes = option_map (λ es. room_edits es ∷ []) (all_of room_edit_at lexemes)

abbrev pub row_items : Row → List Lexeme → Option (List Item)
row_items r lexemes =
    option_and_then (λ items. option_map (λ more. items ++ more) (last_at r.last (drop (length r.ones) lexemes))) (ones_at r.ones lexemes)

-- ---- the table

-- the line of a row with these items
abbrev pub filled : Row → List Item → Line
filled r items = line r.word r.place r.manner items

pub record Entry : Type 0 where
  pub row : Row
  pub make : List Item → Option Statement

abbrev entry : Row → (List Item → Option Statement) → Entry
entry row make = record { row = row; make = make }

abbrev pub make_number : (ℕ → Statement) → List Item → Option Statement
make_number f (amounts (n ∷ []) ∷ []) = Some (f n)
make_number f _ = None

abbrev pub make_object : List Item → Option Statement
make_object (declared an_object ns ∷ []) = Some (object ns)
make_object _ = None

abbrev pub make_predicate : List Item → Option Statement
make_predicate (declared a_predicate (p ∷ []) ∷ amounts (arity ∷ []) ∷ []) = Some (predicate p arity)
make_predicate _ = None

abbrev pub make_operator : List Item → Option Statement
make_operator (declared an_operator (o ∷ []) ∷ listed a_parameter ps ∷ []) = Some (operator o ps)
make_operator _ = None

abbrev pub make_atoms : (List SignedAtom → Statement) → List Item → Option Statement
make_atoms f (atoms xs ∷ []) = Some (f xs)
make_atoms f _ = None

abbrev pub make_nothing : Statement → List Item → Option Statement
make_nothing s [] = Some s
make_nothing s _ = None

abbrev pub make_room : List Item → Option Statement
make_room (declared room_name (r ∷ []) ∷ []) = Some (room r)
make_room _ = None

abbrev pub make_door : List Item → Option Statement
make_door (declared door_name (d ∷ []) ∷ wanted room_name (one ∷ []) ∷ wanted room_name (other ∷ []) ∷ the w ∷ []) =
    option_map (door d one other) (open_of w)
make_door _ = None

abbrev pub make_box : List Item → Option Statement
make_box (declared box_name (b ∷ []) ∷ wanted room_name (r ∷ []) ∷ []) = Some (box b r)
make_box _ = None

abbrev pub make_robot : List Item → Option Statement
make_robot (wanted room_name (r ∷ []) ∷ []) = Some (robot r)
make_robot _ = None

abbrev pub make_plan : List Item → Option Statement
make_plan (declared a_plan (n ∷ []) ∷ atoms xs ∷ []) = Some (plan n xs)
make_plan _ = None

abbrev pub make_learn : List Item → Option Statement
make_learn (declared a_table (n ∷ []) ∷ the w ∷ wanted a_plan (source ∷ []) ∷ []) =
    if bytes_eq w (codes "from") then Some (learn n source) else None
make_learn _ = None

abbrev pub make_ask : About → List Item → Option Statement
make_ask about (wanted a_table (n ∷ []) ∷ []) = Some (ask about n)
make_ask about _ = None

abbrev pub make_disturb : Bool → List Item → Option Statement
make_disturb false (amounts (turn ∷ []) ∷ the w ∷ atoms xs ∷ []) = option_map (λ between. disturb_atoms turn between xs) (time_of w)
make_disturb true (amounts (turn ∷ []) ∷ the w ∷ room_edits es ∷ []) = option_map (λ between. disturb_rooms turn between es) (time_of w)
make_disturb _ _ = None

abbrev pub make_run : List Item → Option Statement
make_run (wanted a_table (n ∷ []) ∷ bindings bs ∷ []) = Some (run n bs)
make_run _ = None

abbrev pub make_sort : List Item → Option Statement
make_sort (declared a_sort (n ∷ []) ∷ declared an_object ns ∷ []) = Some (sort n ns)
make_sort _ = None

abbrev pub make_param : List Item → Option Statement
make_param (wanted a_sort (n ∷ []) ∷ wanted a_parameter ps ∷ []) = Some (param n ps)
make_param _ = None

abbrev pub make_duo : List Item → Option Statement
make_duo (wanted a_table (one ∷ []) ∷ wanted a_table (other ∷ []) ∷ amounts ns ∷ []) = Some (duo one other ns)
make_duo _ = None

abbrev pub make_table : List Item → Option Statement
make_table (declared a_table (n ∷ []) ∷ amounts (parameters ∷ []) ∷ []) = Some (table n parameters)
make_table _ = None

abbrev pub make_step : List Item → Option Statement
make_step (wanted an_operator (o ∷ []) ∷ arguments ts ∷ []) = Some (step o ts)
make_step _ = None

abbrev pub make_proof : List Item → Option Statement
make_proof (proofs parts ∷ []) = Some (proof parts)
make_proof _ = None

abbrev pub make_edit : List Item → Option Statement
make_edit (declared a_table (n ∷ []) ∷ the w ∷ wanted a_table (source ∷ []) ∷ amounts (prefix ∷ []) ∷ pairs ps ∷ []) =
    if bytes_eq w (codes "from") then Some (edit n source prefix ps) else None
make_edit _ = None

abbrev pub make_pursue : List Item → Option Statement
make_pursue (declared a_result (n ∷ []) ∷ atoms xs ∷ []) = Some (pursue n xs)
make_pursue _ = None

abbrev pub make_tree : List Item → Option Statement
make_tree (declared a_result (n ∷ []) ∷ amounts (most ∷ []) ∷ atoms xs ∷ []) = Some (tree n most xs)
make_tree _ = None

abbrev pub disturb_manner : Bool → Manner
disturb_manner true = room_changes
disturb_manner false = atom_changes

abbrev pub disturb_last : Bool → Last
disturb_last true = last.RoomEdits
disturb_last false = last.Atoms

abbrev pub asking_row : List ℕ → Row
asking_row word = row word command plain (one.Known a_table ∷ []) last.Nothing

-- its word stands outside any choice, so that each word below it in the table computes
abbrev pub disturb_row : Bool → Row
disturb_row b = row (codes "disturb") command (disturb_manner b) (one.Number ∷ one.Word choice.Time ∷ []) (disturb_last b)

-- the words of all versions, of a script with or without a building so far
abbrev pub entries_of_all : Bool → List Entry
entries_of_all b =
    entry (row (codes "script") first plain (one.Number ∷ []) last.Nothing) (make_number script)
    ∷ entry (row (codes "object") domain plain [] (last.New an_object)) make_object
    ∷ entry (row (codes "predicate") domain plain (one.New a_predicate ∷ one.Number ∷ []) last.Nothing) make_predicate
    ∷ entry (row (codes "axiom") domain literals [] last.Atoms) (make_atoms «axiom»)
    ∷ entry (row (codes "operator") (opens operator_block) plain (one.New an_operator ∷ []) (last.Listed a_parameter)) make_operator
    ∷ entry (row (codes "pre") (inside operator_block) plain [] last.Atoms) (make_atoms pre)
    ∷ entry (row (codes "delete") (inside operator_block) patterns [] last.Atoms) (make_atoms delete)
    ∷ entry (row (codes "add") (inside operator_block) plain [] last.Atoms) (make_atoms add)
    ∷ entry (row (codes "building") (opens building_block) plain [] last.Nothing) (make_nothing building)
    ∷ entry (row (codes "room") (inside building_block) plain (one.New room_name ∷ []) last.Nothing) make_room
    ∷ entry (row (codes "door") (inside building_block) plain
    (one.New door_name ∷ one.Known room_name ∷ one.Known room_name ∷ one.Word choice.State ∷ []) last.Nothing) make_door
    ∷ entry (row (codes "box") (inside building_block) plain (one.New box_name ∷ one.Known room_name ∷ []) last.Nothing) make_box
    ∷ entry (row (codes "robot") (inside building_block) plain (one.Known room_name ∷ []) last.Nothing) make_robot
    ∷ entry (row (codes "end") closes plain [] last.Nothing) (make_nothing end)
    ∷ entry (row (codes "fact") domain plain [] last.Atoms) (make_atoms fact)
    ∷ entry (row (codes "height") setting plain (one.Number ∷ []) last.Nothing) (make_number height)
    ∷ entry (row (codes "nodes") setting plain (one.Number ∷ []) last.Nothing) (make_number nodes)
    ∷ entry (row (codes "shapes") setting plain (one.Number ∷ []) last.Nothing) (make_number shapes)
    ∷ entry (row (codes "plan") command goals (one.New a_plan ∷ []) last.Atoms) make_plan
    ∷ entry (row (codes "learn") command plain (one.New a_table ∷ one.Word choice.Source ∷ one.Known a_plan ∷ []) last.Nothing) make_learn
    ∷ entry (asking_row (codes "show")) (make_ask Show)
    ∷ entry (disturb_row b) (make_disturb b)
    ∷ entry (row (codes "run") command plain (one.Known a_table ∷ []) last.Bindings) make_run
    ∷ entry (row (codes "facts") command plain [] last.Nothing) (make_nothing facts)
    ∷ []

-- those of a table's block
abbrev pub entries_of_tables : List Entry
entries_of_tables =
    entry (newer 2 (row (codes "table") (opens table_steps) plain (one.New a_table ∷ one.Number ∷ []) last.Nothing)) make_table
    ∷ entry (newer 2 (row (codes "step") (inside table_steps) table_terms (one.Known an_operator ∷ []) last.Arguments)) make_step
    ∷ entry (newer 2 (row (codes "goal") (inside table_steps) table_goals [] last.Atoms)) (make_atoms goal)
    ∷ entry (newer 2 (row (codes "proof") (inside table_rows) table_terms [] last.Proofs)) make_proof
    ∷ []

-- the commands of version 2
abbrev pub entries_of_commands : List Entry
entries_of_commands = entry (newer 2 (asking_row (codes "save"))) (make_ask Save)
    ∷ entry (newer 2 (asking_row (codes "certify"))) (make_ask Certify)
    ∷ entry (newer 2 (row (codes "edit") command plain
    (one.New a_table ∷ one.Word choice.Source ∷ one.Known a_table ∷ one.Number ∷ []) last.Pairs)) make_edit
    ∷ entry (newer 2 (row (codes "duo") command plain (one.Known a_table ∷ one.Known a_table ∷ []) last.Numbers)) make_duo
    ∷ entry (newer 2 (row (codes "pursue") command goals (one.New a_result ∷ []) last.Atoms)) make_pursue
    ∷ []

-- those that version 2 is the first to have
abbrev pub entries_of_two : List Entry
entries_of_two = entry (newer 2 (row (codes "sort") domain plain (one.New a_sort ∷ []) (last.New an_object))) make_sort
    ∷ entry (newer 2 (row (codes "param") (inside operator_block) plain (one.Known a_sort ∷ []) (last.Known a_parameter))) make_param
    ∷ (entries_of_tables ++ entries_of_commands)

-- those that version 3 is the first to have
abbrev pub entries_of_three : List Entry
entries_of_three = entry (newer 3 (row (codes "weight") setting plain (one.Number ∷ []) last.Nothing)) (make_number weight)
    ∷ entry (newer 3 (row (codes "tree") command goals (one.New a_result ∷ one.Number ∷ []) last.Atoms)) make_tree ∷ []

abbrev pub entries : Bool → List Entry
entries b = entries_of_all b ++ (entries_of_two ++ entries_of_three)

abbrev pub entry_among : List ℕ → List Entry → Option Entry
entry_among w [] = None
entry_among w (e ∷ more) = if bytes_eq w e.row.word then Some e else entry_among w more

abbrev pub row_among : List ℕ → List Entry → Option Row
row_among w es = option_map (λ e. e.row) (entry_among w es)

abbrev pub entry_of : Bool → List ℕ → Option Entry
entry_of b w = entry_among w (entries b)

abbrev pub row_of : Bool → List ℕ → Option Row
row_of b w = option_map (λ e. e.row) (entry_of b w)

abbrev pub line_by : List Lexeme → Row → Option Line
line_by lexemes r = option_map (filled r) (row_items r lexemes)

-- the line that lexemes are
abbrev pub line_at : Bool → List Lexeme → Option Line
line_at b (name w ∷ rest) = option_and_then (line_by rest) (row_of b w)
line_at b _ = None

abbrev pub formed_only : Declared → Line → Option Line
formed_only d l = if is_formed d l then Some l else None

-- the line in its form that lexemes are
abbrev pub formed_line : Declared → List Lexeme → Option Line
formed_line d lexemes = option_and_then (formed_only d) (line_at (has_building d) lexemes)

-- the statement that a line's items are
abbrev pub statement_of : Bool → Line → Option Statement
statement_of b l = option_and_then (λ e. e.make l.items) (entry_of b l.word)

-- the statement that lexemes are
abbrev pub parse : Declared → List Lexeme → Option Statement
parse d lexemes = option_and_then (statement_of (has_building d)) (formed_line d lexemes)
