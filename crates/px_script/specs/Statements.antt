-- The lines of a script, each described once: its word, where it stands, what its atoms may be, and its items.
use Rattle.std.specs.Prelude.{ℕ, Bool, true, false, List, [], ◌∷◌, codes}
use Rattle.std.specs.List.{flat_map}
use Rattle.px_script.specs.Lexemes.{Lexeme, name}
use Rattle.px_script.specs.Items.{Item, SignedAtom, WrittenRoomEdit, Binding, the, amount, amounts, new, declared, listed, known, wanted, atoms, bindings, room_edits, an_object, a_predicate, an_operator, a_parameter, a_sort, a_room, a_door, a_box, a_plan, a_table, spell, open_word, a_result, pairs, Argument, Part, arguments, proofs}
-- what a line that only names a table asks for
pub use Rattle.px_script.specs.declared.command.About.{About}
pub use Rattle.px_script.specs.declared.command.About.TheVariants.{Show, Save, Certify}
use Rattle.px_script.specs.declared.command.Command.{Command}
use Rattle.px_script.specs.declared.command.Command.TheVariants as asked
-- what a block is of, where a line stands, and what its atoms may be
pub use Rattle.px_script.specs.declared.kinds.Block.{Block}
pub use Rattle.px_script.specs.declared.kinds.Block.TheVariants.{Operator as operator_block, Building as building_block, TableSteps as table_steps, TableRows as table_rows}
pub use Rattle.px_script.specs.declared.kinds.Place.{Place}
pub use Rattle.px_script.specs.declared.kinds.Place.TheVariants.{First as first, Domain as domain, Setting as setting, Opens as opens, Inside as inside, Closes as closes, Command as command}
pub use Rattle.px_script.specs.declared.kinds.Manner.{Manner}
pub use Rattle.px_script.specs.declared.kinds.Manner.TheVariants.{Plain as plain, Patterns as patterns, Literals as literals, Goals as goals, AtomChanges as atom_changes, RoomChanges as room_changes, TableTerms as table_terms, TableGoals as table_goals}

-- What a line says, by its form. Names are their bytes.
pub data Statement : Type 0 where
  script height nodes shapes : ℕ → Statement
  -- how much the search goes by what its nodes lack, from version 3 on
  weight : ℕ → Statement
  object : List (List ℕ) → Statement
  predicate : List ℕ → ℕ → Statement
  «axiom» : List SignedAtom → Statement
  operator : List ℕ → List (List ℕ) → Statement
  pre delete add fact : List SignedAtom → Statement
  building : Statement
  room robot : List ℕ → Statement
  -- its name, its two rooms, and whether it is open
  door : List ℕ → List ℕ → List ℕ → Bool → Statement
  box : List ℕ → List ℕ → Statement
  end : Statement
  plan : List ℕ → List SignedAtom → Statement
  learn : List ℕ → List ℕ → Statement
  -- a command that only names a table
  ask : About → List ℕ → Statement
  -- the turn, whether the edits come between sensing and acting, and the edits
  disturb_atoms : ℕ → Bool → List SignedAtom → Statement
  disturb_rooms : ℕ → Bool → List WrittenRoomEdit → Statement
  run : List ℕ → List Binding → Statement
  facts : Statement
  -- These stand only from version 2 on: a sort and its objects; a sort and the parameters that have it.
  sort param : List ℕ → List (List ℕ) → Statement
  -- two tables, and the numbers of whoever is next
  duo : List ℕ → List ℕ → List ℕ → Statement
  -- The block of a table: its name and how many parameters it has; an operator and what it is done to; the goal; the proofs of one row.
  table : List ℕ → ℕ → Statement
  step : List ℕ → List Argument → Statement
  goal : List SignedAtom → Statement
  proof : List Part → Statement
  -- the name of an edited table, the table that it is made from, how many of its steps, and the wanted adds as pairs of a step and a place;
  -- a name, and a goal that is pursued
  edit : List ℕ → List ℕ → ℕ → List (ℕ × ℕ) → Statement
  pursue : List ℕ → List SignedAtom → Statement
  -- a name, how many nodes, and a goal that is searched for until there are as many
  tree : List ℕ → ℕ → List SignedAtom → Statement

pub record Line : Type 0 where
  pub word : List ℕ
  pub place : Place
  pub manner : Manner
  pub items : List Item

abbrev pub line : List ℕ → Place → Manner → List Item → Line
line word place manner items = record { word = word; place = place; manner = manner; items = items }

abbrev pub time_word : Bool → List ℕ
time_word true = codes "between"
time_word false = codes "before"

abbrev pub ask_word : About → List ℕ
ask_word Show = codes "show"
ask_word Save = codes "save"
ask_word Certify = codes "certify"

-- the command that such a line gives
abbrev pub command_about : About → ℕ → Command
command_about Show n = asked.Show n
command_about Save n = asked.Save n
command_about Certify n = asked.Certify n

abbrev pub line_of : Statement → Line
line_of (script version) = line (codes "script") first plain (amount version ∷ [])
line_of (object ns) = line (codes "object") domain plain (declared an_object ns ∷ [])
line_of (predicate p arity) = line (codes "predicate") domain plain (new a_predicate p ∷ amount arity ∷ [])
line_of («axiom» xs) = line (codes "axiom") domain literals (atoms xs ∷ [])
line_of (operator o ps) = line (codes "operator") (opens operator_block) plain (new an_operator o ∷ listed a_parameter ps ∷ [])
line_of (pre xs) = line (codes "pre") (inside operator_block) plain (atoms xs ∷ [])
line_of (delete xs) = line (codes "delete") (inside operator_block) patterns (atoms xs ∷ [])
line_of (add xs) = line (codes "add") (inside operator_block) plain (atoms xs ∷ [])
line_of building = line (codes "building") (opens building_block) plain []
line_of (room r) = line (codes "room") (inside building_block) plain (new a_room r ∷ [])
line_of (door d one other is_open) =
    line (codes "door") (inside building_block) plain (new a_door d ∷ known a_room one ∷ known a_room other ∷ the (open_word is_open) ∷ [])
line_of (box b r) = line (codes "box") (inside building_block) plain (new a_box b ∷ known a_room r ∷ [])
line_of (robot r) = line (codes "robot") (inside building_block) plain (known a_room r ∷ [])
line_of end = line (codes "end") closes plain []
line_of (fact xs) = line (codes "fact") domain plain (atoms xs ∷ [])
line_of (height limit) = line (codes "height") setting plain (amount limit ∷ [])
line_of (nodes limit) = line (codes "nodes") setting plain (amount limit ∷ [])
line_of (shapes limit) = line (codes "shapes") setting plain (amount limit ∷ [])
line_of (weight limit) = line (codes "weight") setting plain (amount limit ∷ [])
line_of (plan n xs) = line (codes "plan") command goals (new a_plan n ∷ atoms xs ∷ [])
line_of (learn n source) = line (codes "learn") command plain (new a_table n ∷ the (codes "from") ∷ known a_plan source ∷ [])
line_of (ask about n) = line (ask_word about) command plain (known a_table n ∷ [])
line_of (disturb_atoms turn between xs) =
    line (codes "disturb") command atom_changes (amount turn ∷ the (time_word between) ∷ atoms xs ∷ [])
line_of (disturb_rooms turn between es) =
    line (codes "disturb") command room_changes (amount turn ∷ the (time_word between) ∷ room_edits es ∷ [])
line_of (run n bs) = line (codes "run") command plain (known a_table n ∷ bindings bs ∷ [])
line_of facts = line (codes "facts") command plain []
line_of (sort n ns) = line (codes "sort") domain plain (new a_sort n ∷ declared an_object ns ∷ [])
line_of (duo one other ns) = line (codes "duo") command plain (known a_table one ∷ known a_table other ∷ amounts ns ∷ [])
line_of (table n parameters) = line (codes "table") (opens table_steps) plain (new a_table n ∷ amount parameters ∷ [])
line_of (step o ts) = line (codes "step") (inside table_steps) table_terms (known an_operator o ∷ arguments ts ∷ [])
line_of (goal xs) = line (codes "goal") (inside table_steps) table_goals (atoms xs ∷ [])
line_of (proof parts) = line (codes "proof") (inside table_rows) table_terms (proofs parts ∷ [])
line_of (edit n source prefix ps) =
    line (codes "edit") command plain (new a_table n ∷ the (codes "from") ∷ known a_table source ∷ amount prefix ∷ pairs ps ∷ [])
line_of (pursue n xs) = line (codes "pursue") command goals (new a_result n ∷ atoms xs ∷ [])
line_of (tree n most xs) = line (codes "tree") command goals (new a_result n ∷ amount most ∷ atoms xs ∷ [])
line_of (param n ps) = line (codes "param") (inside operator_block) plain (known a_sort n ∷ wanted a_parameter ps ∷ [])

-- the lexemes of a line
abbrev pub spelling_of : Line → List Lexeme
spelling_of l = name l.word ∷ flat_map spell l.items

abbrev pub spelling : Statement → List Lexeme
spelling s = spelling_of (line_of s)
