-- What the lines so far have declared, and what a line adds.
use Rattle.std.specs.Prelude.{ℕ, ◌+◌, ◌-◌, Bool, true, false, List, [], ◌∷◌, ◌++◌, map, length, replicate, Option, None, Some, is_some, position, unwrap_or, if◌then◌else◌, fold, ◌||◌, slice_index, slice_index_or, take, drop, max}
use Rattle.std.specs.Fmt.{decimal}
use Rattle.std.specs.List.{flat_map, range_with_len}
use Rattle.std.specs.Option.{option_map}
use Rattle.std.specs.Str.{bytes_eq}
use Rattle.px_terms.specs.Problems.{schema_without_sorts}
use Rattle.px_script.specs.Common.{building_problem, Clause, NameLists, Problem, no_names, has_name, RoomOperator, RoomPredicate, robot_name, room_operators, room_predicates, Atom, Lit, Schema, Term, Obj, Var, Any, atom_set, AtomEdit, RoomEdit, Thing, OpInst}
use Rattle.px_proof.specs.Derivation as derivation
use Rattle.px_proof.specs.LayerLaws.{proof_of}
use Rattle.px_table.specs.declared.table.Table.{Table}
use Rattle.px_table.specs.Tables.{table_of_rows}
use Rattle.px_table.specs.WellSorted.{sorts_by_places}
use Rattle.px_proof.specs.Derivation.{Derivation, derivations}
use Rattle.px_world.specs.declared.edits.AtomEdit.TheVariants as atom_edit
use Rattle.px_world.specs.declared.edits.RoomEdit.TheVariants as room_edit
use Rattle.px_world.specs.declared.thing.Thing.TheVariants as thing
use Rattle.px_script.specs.Items.{Named, Argument, SignedAtom, Sign, WrittenRoomEdit, Binding, named, open_variable, anything, bare, added, robot_to, box_to, door_to, declared_in, an_object, a_predicate, an_operator, a_result, a_parameter, a_sort, a_room, a_door, a_box, a_plan, a_table, Part, a_fact, an_ancestor, an_axiom}
use Rattle.px_script.specs.Statements.{Statement, Line, command_about, Place, Block, line_of, domain, opens, operator_block, building_block, table_steps, table_rows, script, object, predicate, «axiom», operator, pre, delete, add, building, room, door, box, robot, end, fact, height, nodes, shapes, weight, plan, learn, ask, disturb_atoms, disturb_rooms, run, facts, sort, param, duo, edit, pursue, tree, table, step, goal, proof}
use Rattle.px_script.specs.Limits as limit
use Rattle.px_script.specs.Limits.{greatest, default_height, default_nodes, default_shapes, default_weight}
use Rattle.px_script.specs.Commands.{Command}
use Rattle.px_script.specs.declared.command.Command.TheVariants.{Plan, Learn, DisturbAtoms, DisturbRooms, Run, Facts, Duo, Edit, Pursue, Tree}

-- the operator whose block is open: its parameters' names, and its schema so far
pub record OpenOperator : Type 0 where
  pub parameters : List (List ℕ)
  pub schema : Schema

-- a table of the script whose block is open, as far as its lines stood: the number of its name, how many parameters it has, its steps, its
-- goal with the greatest number of a variable of it, and the proofs of its rows
pub record WrittenTable : Type 0 where
  pub name : ℕ
  pub parameters : ℕ
  pub steps : List OpInst
  pub goal : List Atom
  pub goal_variable_count : ℕ
  pub rows : List (List Derivation)

-- A table's block, of version 2, is one of steps up to its goal, and one of rows after it.
pub data BlockKind : Type 0 where
  of_operator : OpenOperator → BlockKind
  of_building : BlockKind
  of_table_steps of_table_rows : WrittenTable → BlockKind

-- a block that isn't closed, and the line that opened it
pub record OpenBlock : Type 0 where
  pub line : ℕ
  pub kind : BlockKind

-- the objects that are rooms, doors and boxes, and the results that are plans and tables
pub record Roles : Type 0 where
  pub rooms : List (List ℕ)
  pub doors : List (List ℕ)
  pub boxes : List (List ℕ)
  pub plans : List (List ℕ)
  pub tables : List (List ℕ)

pub record Declared : Type 0 where
  pub version : ℕ
  pub names : NameLists
  pub roles : Roles
  -- the sorts, which only version 2 has, and the sort of each object up to the last that has one; 0 is no sort
  pub sorts : List (List ℕ)
  pub object_sorts : List ℕ
  pub arities : List ℕ
  pub axioms : List Clause
  pub schemas : List Schema
  -- the facts of the lines `fact`, as a set
  pub facts : List Atom
  -- the things of the building, if there is one
  pub things : Option (List Thing)
  pub height : Option ℕ
  pub nodes : Option ℕ
  pub shapes : Option ℕ
  pub weight : Option ℕ
  -- the tables whose blocks are closed, each with the number of its name
  pub saved : List (ℕ × Table)
  pub commands : List Command
  -- how many lines `disturb` stood since the last `run`
  pub disturbs : ℕ
  pub block : Option OpenBlock
  -- a line stood that a building excludes
  pub own_domain : Bool
  -- a line with tokens stood
  pub begun : Bool

abbrev pub nothing_declared : Declared
nothing_declared = record {
  version = 1;
  names = no_names;
  roles = record { rooms = []; doors = []; boxes = []; plans = []; tables = [] };
  sorts = [];
  object_sorts = [];
  arities = [];
  axioms = [];
  schemas = [];
  facts = [];
  things = None;
  height = None;
  nodes = None;
  shapes = None;
  weight = None;
  saved = [];
  commands = [];
  disturbs = 0;
  block = None;
  own_domain = false;
  begun = false;
}

-- a line `building` stood
abbrev pub has_building : Declared → Bool
has_building d = is_some d.things

-- what the open block is of
abbrev pub kind_of_block : BlockKind → Block
kind_of_block (of_operator o) = operator_block
kind_of_block of_building = building_block
kind_of_block (of_table_steps t) = table_steps
kind_of_block (of_table_rows t) = table_rows

abbrev pub block_here : Declared → Option Block
block_here d = option_map (λ block. kind_of_block block.kind) d.block

abbrev pub operator_in : BlockKind → Option OpenOperator
operator_in (of_operator o) = Some o
operator_in _ = None

-- the operator whose block is open
abbrev pub operator_here : Option OpenBlock → Option OpenOperator
operator_here None = None
operator_here (Some block) = operator_in block.kind

abbrev pub parameters_of : Option OpenOperator → List (List ℕ)
parameters_of None = []
parameters_of (Some o) = o.parameters

abbrev pub parameters_here : Declared → List (List ℕ)
parameters_here d = parameters_of (operator_here d.block)

abbrev pub table_parameters : BlockKind → ℕ
table_parameters (of_table_steps t) = t.parameters
table_parameters (of_table_rows t) = t.parameters
table_parameters _ = 0

-- how many parameters the table whose block is open has
abbrev pub table_parameters_here : Option OpenBlock → ℕ
table_parameters_here None = 0
table_parameters_here (Some block) = table_parameters block.kind

-- the names of a kind
abbrev pub names_here : Declared → Named → List (List ℕ)
names_here d an_object = d.names.objects
names_here d a_predicate = d.names.predicates
names_here d an_operator = d.names.operators
names_here d a_result = d.names.results
names_here d a_parameter = parameters_here d
names_here d a_sort = d.sorts
names_here d a_room = d.roles.rooms
names_here d a_door = d.roles.doors
names_here d a_box = d.roles.boxes
names_here d a_plan = d.roles.plans
names_here d a_table = d.roles.tables

abbrev pub with_objects : List (List ℕ) → Declared → Declared
with_objects ns d = record d { names = record d.names { objects = d.names.objects ++ ns } }

abbrev pub with_results : List (List ℕ) → Declared → Declared
with_results ns d = record d { names = record d.names { results = d.names.results ++ ns } }

-- more names of a kind; the names of parameters stand with their operator
abbrev pub with_names : Named → List (List ℕ) → Declared → Declared
with_names an_object ns d = with_objects ns d
with_names a_predicate ns d = record d { names = record d.names { predicates = d.names.predicates ++ ns } }
with_names an_operator ns d = record d { names = record d.names { operators = d.names.operators ++ ns } }
with_names a_result ns d = with_results ns d
with_names a_parameter ns d = d
with_names a_sort ns d = record d { sorts = d.sorts ++ ns }
with_names a_room ns d = record (with_objects ns d) { roles = record d.roles { rooms = d.roles.rooms ++ ns } }
with_names a_door ns d = record (with_objects ns d) { roles = record d.roles { doors = d.roles.doors ++ ns } }
with_names a_box ns d = record (with_objects ns d) { roles = record d.roles { boxes = d.roles.boxes ++ ns } }
with_names a_plan ns d =
    record (with_results ns d) { roles = record d.roles { plans = d.roles.plans ++ ns; tables = d.roles.tables ++ ns } }
with_names a_table ns d = record (with_results ns d) { roles = record d.roles { tables = d.roles.tables ++ ns } }

abbrev pub with_all_names : List (Named × List (List ℕ)) → Declared → Declared
with_all_names [] d = d
with_all_names (group ∷ more) d = with_all_names more (with_names group.0 group.1 d)

-- the names that a line declares, by kind
abbrev pub declared_by : Line → List (Named × List (List ℕ))
declared_by l = flat_map declared_in l.items

-- a line that a building excludes
abbrev pub excludes_building : Place → Bool
excludes_building domain = true
excludes_building (opens operator_block) = true
excludes_building _ = false

abbrev pub number_in : List ℕ → List (List ℕ) → ℕ
number_in n names = unwrap_or (position (bytes_eq n) names) 0

-- the different variables of atoms, by first occurrence
abbrev pub with_variable : List (List ℕ) → Argument → List (List ℕ)
with_variable seen (open_variable v) = if has_name v seen then seen else seen ++ v ∷ []
with_variable seen _ = seen

abbrev pub variable_names_of : List SignedAtom → List (List ℕ)
variable_names_of xs = fold with_variable [] (flat_map (λ x. x.atom.arguments) xs)

-- the term of an argument: a name is a parameter or an object, and never one of the variables
abbrev pub term_of : List (List ℕ) → List (List ℕ) → List (List ℕ) → Argument → Term
term_of parameters variables objects (named n) = if has_name n parameters then Var (number_in n parameters) else Obj (number_in n objects)
term_of parameters variables objects (open_variable v) = Var (number_in v variables)
term_of parameters variables objects anything = Any

abbrev pub atom_of : Declared → List (List ℕ) → SignedAtom → Atom
atom_of d variables x = record {
  pred = number_in x.atom.predicate d.names.predicates;
  args = map (term_of (parameters_here d) variables d.names.objects) x.atom.arguments;
}

abbrev pub is_bare : Sign → Bool
is_bare bare = true
is_bare _ = false

abbrev pub literal_of : Declared → List (List ℕ) → SignedAtom → Lit
literal_of d variables x = record { positive = is_bare x.sign; atom = atom_of d variables x }

abbrev pub clause_of : Declared → List SignedAtom → Clause
clause_of d xs = record { variable_count = length (variable_names_of xs); lits = map (literal_of d (variable_names_of xs)) xs }

abbrev pub edit_by : Sign → Atom → AtomEdit
edit_by added atom = atom_edit.Add atom
edit_by _ atom = atom_edit.Remove atom

abbrev pub atom_edit_of : Declared → SignedAtom → AtomEdit
atom_edit_of d x = edit_by x.sign (atom_of d [] x)

abbrev pub room_edit_of : Declared → WrittenRoomEdit → RoomEdit
room_edit_of d (robot_to r) = room_edit.Robot (number_in r d.names.objects)
room_edit_of d (box_to b r) = room_edit.Box (number_in b d.names.objects) (number_in r d.names.objects)
room_edit_of d (door_to n is_open) = room_edit.Door (number_in n d.names.objects) is_open

abbrev pub binding_of : Declared → Binding → ℕ × ℕ
binding_of d binding = (binding.parameter, number_in binding.object d.names.objects)

-- the schema of the operator whose block is open, changed
abbrev pub change_schema : (Schema → Schema) → BlockKind → BlockKind
change_schema change (of_operator o) = of_operator (record o { schema = change o.schema })
change_schema change kind = kind

abbrev pub in_schema : (Schema → Schema) → Declared → Declared
in_schema change d =
    record d { block = option_map {T = OpenBlock} (λ block. record block { kind = change_schema change block.kind }) d.block }

-- the table whose block is open
abbrev pub table_in : BlockKind → Option WrittenTable
table_in (of_table_steps t) = Some t
table_in (of_table_rows t) = Some t
table_in _ = None

abbrev pub table_here : Option OpenBlock → Option WrittenTable
table_here None = None
table_here (Some block) = table_in block.kind

abbrev pub open_block : ℕ → BlockKind → Declared → Declared
open_block n kind d = record d { block = Some (record { line = n; kind = kind }) }

-- a list of sorts with no sort for each that is past its end, up to this many
abbrev pub filled_up : ℕ → List ℕ → List ℕ
filled_up n sorts = sorts ++ replicate (n - length sorts) 0

-- the sort of each object
abbrev pub object_sorts_here : Declared → List ℕ
object_sorts_here d = filled_up (length d.names.objects) d.object_sorts

-- ---- the problem that the lines so far give

-- the problem with these parts, whose objects have these sorts up to the last that has one
abbrev pub problem_with : ℕ → List ℕ → List Clause → List Schema → ℕ → ℕ → ℕ → ℕ → List ℕ → ℕ → Problem
problem_with objects arities axioms schemas tall many wide sorts object_sorts heavy = record {
  objects = objects;
  arities = arities;
  axioms = axioms;
  schemas = schemas;
  height = tall;
  nodes = many;
  shapes = wide;
  sorts = sorts;
  object_sorts = filled_up objects object_sorts;
  weight = heavy;
}

-- the problem by the script's own sorts, axioms and operators, with the limits that its lines leave at their defaults
abbrev pub own_problem : Declared → Problem
own_problem d = problem_with (length d.names.objects) d.arities d.axioms d.schemas
    (unwrap_or d.height default_height) (unwrap_or d.nodes (default_nodes d.version)) (unwrap_or d.shapes default_shapes)
    (length d.sorts) d.object_sorts (unwrap_or d.weight (default_weight d.version))

-- A building has the axiom and the operators of every building (`px_rooms`), with the script's limits.
abbrev pub building_with : ℕ → ℕ → ℕ → ℕ → ℕ → Problem
building_with objects tall many wide heavy = record (building_problem objects tall many wide) { weight = heavy }

abbrev pub problem_of : Problem → Option (List Thing) → Problem
problem_of own None = own
problem_of own (Some things) = building_with own.objects own.height own.nodes own.shapes own.weight

abbrev pub problem_here : Declared → Problem
problem_here d = problem_of (own_problem d) d.things

-- ---- the ends of blocks

-- the table that these parts make, with the sorts of its parameters by their places, and with the marks of its rows
abbrev pub table_made : Problem → WrittenTable → Table
table_made problem t =
    table_of_rows t.parameters (sorts_by_places problem t.steps t.parameters) t.steps t.goal t.goal_variable_count (map (map proof_of) t.rows)

-- the block closed: from its `end` on an operator's schema is the script's, and so is a table
abbrev pub schema_closed : Option OpenOperator → List Schema
schema_closed None = []
schema_closed (Some o) = o.schema ∷ []

abbrev pub table_closed : Problem → Option WrittenTable → List (ℕ × Table)
table_closed problem None = []
table_closed problem (Some t) = (t.name, table_made problem t) ∷ []

abbrev pub close_block : Declared → Declared
close_block d = record d {
  schemas = d.schemas ++ schema_closed (operator_here d.block);
  saved = d.saved ++ table_closed (problem_here d) (table_here d.block);
  block = None;
}

-- the sorts of the parameters of these names, where some of them get this one
abbrev pub with_sort : ℕ → List (List ℕ) → List (List ℕ) → List ℕ → List ℕ
with_sort s ps names sorts =
    map (λ k. if has_name (slice_index_or names k []) ps then s else slice_index sorts k) (range_with_len 0 (length names))

abbrev pub give_sort : ℕ → List (List ℕ) → BlockKind → BlockKind
give_sort s ps (of_operator o) =
    of_operator (record o { schema = record o.schema { param_sorts = with_sort s ps o.parameters o.schema.param_sorts } })
give_sort s ps kind = kind

-- ---- the lines of a table's block

-- ?p1, ?p2 and so on are the parameters of the table whose block is open; then ?g1, ?g2 and so on are the variables of its goal
abbrev pub letter_numbers : ℕ → ℕ → List (List ℕ)
letter_numbers letter most = map (λ k. letter ∷ decimal k) (range_with_len 1 most)

abbrev pub table_variables : Declared → List (List ℕ)
table_variables d = letter_numbers 112 (table_parameters_here d.block) ++ letter_numbers 103 (greatest d.version limit.variables)

abbrev pub table_term : Declared → Argument → Term
table_term d = term_of (parameters_here d) (table_variables d) d.names.objects

abbrev pub instance_of_step : Declared → List ℕ → List Argument → OpInst
instance_of_step d o ts = record { op = number_in o d.names.operators; args = map (table_term d) ts }

-- the proofs that parts are: a step takes as many of the proofs after it as it says
abbrev pub proofs_read : Declared → List Part → List Derivation
proofs_read d [] = []
proofs_read d (a_fact column index x ∷ more) =
    derivation.fact (record { column = column; index = index; atom = atom_of d (table_variables d) x }) ∷ proofs_read d more
proofs_read d (an_ancestor k ∷ more) = derivation.ancestor k ∷ proofs_read d more
proofs_read d (an_axiom k place count ts ∷ more) = let after = proofs_read d more in
    derivation.step k (map (table_term d) ts) place (derivations (take count after)) ∷ drop count after

-- the number of a variable of the goal, and 0 for what is none
abbrev pub goal_number : Declared → Argument → ℕ
goal_number d (open_variable v) = elim (position (bytes_eq v) (letter_numbers 103 (greatest d.version limit.variables)))
    [ None ↦ 0 | Some k ↦ k + 1 ]
goal_number d _ = 0

-- the greatest number of a variable of the goal, and 0 where there is none
abbrev pub goal_variables : Declared → List SignedAtom → ℕ
goal_variables d xs = fold max 0 (map (goal_number d) (flat_map (λ x. x.atom.arguments) xs))

-- the table whose block is open, changed; and its block, from the goal on
abbrev pub change_table : (WrittenTable → WrittenTable) → BlockKind → BlockKind
change_table change (of_table_steps t) = of_table_steps (change t)
change_table change (of_table_rows t) = of_table_rows (change t)
change_table change kind = kind

abbrev pub after_goal : BlockKind → BlockKind
after_goal (of_table_steps t) = of_table_rows t
after_goal kind = kind

abbrev pub in_block : (BlockKind → BlockKind) → Declared → Declared
in_block change d = record d { block = option_map {T = OpenBlock} (λ block. record block { kind = change block.kind }) d.block }

-- the building with one more thing
abbrev pub with_thing : Thing → Declared → Declared
with_thing thing d = record d { things = option_map (λ things. things ++ thing ∷ []) d.things }

abbrev pub with_command : Command → Declared → Declared
with_command command d = record d { commands = d.commands ++ command ∷ [] }

abbrev pub with_disturbance : Command → Declared → Declared
with_disturbance command d = record (with_command command d) { disturbs = d.disturbs + 1 }

-- the names of every building's predicates, and of its operators, by number
abbrev pub predicate_names : List (List ℕ)
predicate_names = map (λ (p : RoomPredicate). p.name) room_predicates

abbrev pub predicate_arities : List ℕ
predicate_arities = map (λ (p : RoomPredicate). p.arity) room_predicates

abbrev pub operator_names : List (List ℕ)
operator_names = map (λ (o : RoomOperator). o.name) room_operators

-- the names that a building gives to its script: the robot's, and those of predicates and operators
abbrev pub with_domain : Declared → Declared
with_domain d = record (with_names an_operator operator_names (with_names a_predicate predicate_names (with_objects (robot_name ∷ []) d)))
    { arities = d.arities ++ predicate_arities }

-- what a line without a fault leaves, where it is line number n, but for the names that it declares
abbrev pub declares : ℕ → Declared → Statement → Declared
declares n d (script version) = record d { version = version }
declares n d (object ns) = d
declares n d (predicate p arity) = record d { arities = d.arities ++ arity ∷ [] }
declares n d («axiom» xs) = record d { axioms = d.axioms ++ clause_of d xs ∷ [] }
declares n d (operator o ps) =
    open_block n (of_operator (record { parameters = ps; schema = schema_without_sorts (length d.schemas) (length ps) [] [] [] })) d
declares n d (pre xs) = in_schema (λ schema. record schema { pre = schema.pre ++ map (atom_of d []) xs }) d
declares n d (delete xs) = in_schema (λ schema. record schema { del = schema.del ++ map (atom_of d []) xs }) d
declares n d (add xs) = in_schema (λ schema. record schema { add = schema.add ++ map (atom_of d []) xs }) d
declares n d building = open_block n of_building (record (with_domain d) { things = Some [] })
declares n d (room r) = with_thing thing.Room d
declares n d (door m one other is_open) =
    with_thing (thing.Door (number_in one d.names.objects) (number_in other d.names.objects) is_open) d
declares n d (box m r) = with_thing (thing.Box (number_in r d.names.objects)) d
declares n d (robot r) = with_thing (thing.Robot (number_in r d.names.objects)) d
declares n d end = close_block d
declares n d (fact xs) = record d { facts = atom_set (map (atom_of d []) xs ++ d.facts) }
declares n d (height limit) = record d { height = Some limit }
declares n d (nodes limit) = record d { nodes = Some limit }
declares n d (shapes limit) = record d { shapes = Some limit }
declares n d (weight limit) = record d { weight = Some limit }
declares n d (plan m xs) =
    with_command (Plan (length d.names.results) (map (atom_of d (variable_names_of xs)) xs) (length (variable_names_of xs))) d
declares n d (learn m source) = with_command (Learn (length d.names.results) (number_in source d.names.results)) d
declares n d (ask about m) = with_command (command_about about (number_in m d.names.results)) d
declares n d (disturb_atoms turn between xs) = with_disturbance (DisturbAtoms turn between (map (atom_edit_of d) xs)) d
declares n d (disturb_rooms turn between es) = with_disturbance (DisturbRooms turn between (map (room_edit_of d) es)) d
declares n d (run m bs) = record (with_command (Run (number_in m d.names.results) (map (binding_of d) bs)) d) { disturbs = 0 }
declares n d (duo one other ns) = with_command (Duo (number_in one d.names.results) (number_in other d.names.results) ns) d
declares n d (edit m source prefix ps) = with_command (Edit (length d.names.results) (number_in source d.names.results) prefix ps) d
declares n d facts = with_command Facts d
declares n d (sort m ns) = record d { object_sorts = object_sorts_here d ++ replicate (length ns) (length d.sorts + 1) }
declares n d (table m parameters) = open_block n (of_table_steps (record {
  name = length d.names.results;
  parameters = parameters;
  steps = [];
  goal = [];
  goal_variable_count = 0;
  rows = [];
})) d
declares n d (step o ts) = in_block (change_table (λ t. record t { steps = t.steps ++ instance_of_step d o ts ∷ [] })) d
declares n d (goal xs) = in_block (λ kind. after_goal (change_table
    (λ t. record t { goal = map (atom_of d (table_variables d)) xs; goal_variable_count = goal_variables d xs }) kind)) d
declares n d (proof parts) = in_block (change_table (λ t. record t { rows = t.rows ++ proofs_read d parts ∷ [] })) d
declares n d (pursue m xs) =
    with_command (Pursue (length d.names.results) (map (atom_of d (variable_names_of xs)) xs) (length (variable_names_of xs))) d
declares n d (tree m most xs) = with_command
    (Tree (length d.names.results) most (map (atom_of d (variable_names_of xs)) xs) (length (variable_names_of xs))) d
declares n d (param m ps) = record d {
  block = option_map {T = OpenBlock} (λ block. record block { kind = give_sort (number_in m d.sorts + 1) ps block.kind }) d.block;
}

-- what a line without a fault leaves, where it is line number n
abbrev pub after_line : ℕ → Declared → Statement → Declared
after_line n d s = record (with_all_names (declared_by (line_of s)) (declares n d s)) {
  own_domain = d.own_domain || excludes_building (line_of s).place;
  begun = true;
}
