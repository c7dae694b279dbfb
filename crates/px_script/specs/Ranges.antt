-- The numbers of a script are in range, by subject.
use Rattle.std.specs.Prelude.{◌≡◌, ◌≢◌, ◌<◌, ◌≤◌, ℕ, ◌+◌, ◌-◌, max, fold, true, false, List, [], ◌∷◌, ◌++◌, map, length, take, Option, None, Some, is_some, All, AllPairs, IfSome, slice_index_or, EachIndex, ◌==◌, not, codes}
use Rattle.std.specs.List.{flat_map, filter, filter_map, list_any, range_with_len, scan}
use Rattle.px_script.specs.Common.{NameLists, AreDistinct, IsAdmitted, robot_name, IsBuilding, IsRoomAt, first_state, rendering, standings, IsAtomSet, IsValid, IsAtomOf, Atom, Problem, Schema, Term, Var, AtomEdit, RoomEdit, Thing}
use Rattle.px_proof.specs.Derivation.{height}
use Rattle.px_table.specs.declared.table.Table.{Table}
use Rattle.px_table.specs.Deciding.{is_table}
use Rattle.px_table.specs.Tables.{rows_of}
use Rattle.px_table.specs.WellSorted.{sorts_by_places}
use Rattle.px_world.specs.declared.edits.AtomEdit.TheVariants as atom_edit
use Rattle.px_world.specs.declared.thing.Thing.TheVariants.{Room, Door, Box, Robot}
use Rattle.px_script.specs.Items.{last_parameter}
use Rattle.px_script.specs.Limits as limit
use Rattle.px_script.specs.Limits.{Bounds, greatest, of_nodes, of_weight, of_tree, of_turn, of_version, of_executor, last_number}
use Rattle.px_script.specs.Commands.{Command}
use Rattle.px_script.specs.declared.command.Command.TheVariants.{Plan, Learn, Show, Save, Certify, DisturbAtoms, DisturbRooms, Run, Facts, Duo, Edit, Pursue, Tree}
use Rattle.px_script.specs.Declarations.{building_with, operator_names, predicate_names}
use Rattle.px_script.specs.Content.{ScriptValue}
use Rattle.px_script.specs.Stages.{Stage, is_built}

-- No name of a kind stands twice, and none is too long.
pub record AreNamesOf (version : ℕ) (names : List (List ℕ)) : Type 0 where
  pub distinct : AreDistinct names
  pub short : All (λ n. length n ≤ greatest version limit.name_bytes) names

-- The names of each kind are like this, and not too many.
pub record NamesInRange (version : ℕ) (names : NameLists) : Type 0 where
  pub objects : AreNamesOf version names.objects
  pub predicates : AreNamesOf version names.predicates
  pub operators : AreNamesOf version names.operators
  pub results : AreNamesOf version names.results
  pub few_objects : length names.objects ≤ greatest version limit.objects
  pub few_predicates : length names.predicates ≤ greatest version limit.predicates
  pub few_operators : length names.operators ≤ greatest version limit.operators

abbrev pub IsWithin : Bounds → ℕ → Type 0
IsWithin bounds n = (bounds.least ≤ n) × (n ≤ bounds.most)

-- the problem

abbrev pub variable_in : Term → Option ℕ
variable_in (Var v) = Some v
variable_in _ = None

-- each number of the list once, in the order in which they first occur
abbrev pub first_occurrences : List ℕ → List ℕ
first_occurrences [] = []
first_occurrences (n ∷ ns) = n ∷ filter (λ m. not (m == n)) (first_occurrences ns)

-- The atoms have as many variables, numbered from 0 in the order in which they first occur.
abbrev pub AreNumbered : ℕ → List Atom → Type 0
AreNumbered variable_count atoms = first_occurrences (filter_map variable_in (flat_map (λ atom. atom.args) atoms)) ≡ range_with_len 0 variable_count

-- each list of the operator has few atoms
abbrev pub HasShortLists : ℕ → Schema → Type 0
HasShortLists version schema =
    (length schema.pre ≤ greatest version limit.operator_atoms) × (length schema.del ≤ greatest version limit.operator_atoms)
    × (length schema.add ≤ greatest version limit.operator_atoms)

-- The problem is valid, with no more nodes and no more weight than a script of the version may ask for, and its objects and predicates
-- have names. Variables of axioms are numbered as they occur.
pub record ProblemInRange (version : ℕ) (names : NameLists) (problem : Problem) : Type 0 where
  pub valid : IsValid problem
  pub nodes : IsWithin (of_nodes version) problem.nodes
  pub weight : IsWithin (of_weight version) problem.weight
  pub objects : problem.objects ≡ length names.objects
  pub predicates : length problem.arities ≡ length names.predicates
  pub arities : All (λ n. n ≤ greatest version limit.arity) problem.arities
  pub axiom_variables : All (λ clause. AreNumbered clause.variable_count (map (λ lit. lit.atom) clause.lits)) problem.axioms
  pub short_lists : All (HasShortLists version) problem.schemas
  pub few_sorts : problem.sorts ≤ greatest version limit.sorts

-- the facts
pub record FactsInRange (version : ℕ) (problem : Problem) (building : Option (List Thing)) (facts : List Atom) : Type 0 where
  pub fact_set : IsAtomSet facts
  pub atoms : All (IsAtomOf problem 0) facts
  pub few : building ≡ None → length facts ≤ greatest version limit.facts

-- A door stands between two rooms, and a box and the robot are in a room: rooms of the things before it.
abbrev pub IsThingAfter : List Thing → Thing → Type 0
IsThingAfter before Room = Unit {0}
IsThingAfter before (Door one other is_open) = IsRoomAt (standings before) one × IsRoomAt (standings before) other × (one ≢ other)
IsThingAfter before (Box r) = IsRoomAt (standings before) r
IsThingAfter before (Robot r) = IsRoomAt (standings before) r

-- The things are a building, each by rooms of earlier lines alone; the objects are the robot and the things, and the other names
-- are those of every building; the problem is the building's, with the script's limits, and the facts are those of its first state.
pub record IsBuildingOf (names : NameLists) (problem : Problem) (facts : List Atom) (things : List Thing) : Type 0 where
  pub is_building : IsBuilding things
  pub earlier : EachIndex things (λ k. IsThingAfter (take k things) (slice_index_or things k Room))
  pub objects : length names.objects ≡ length (standings things) + 1
  pub robot_first : slice_index_or names.objects 0 [] ≡ robot_name
  pub predicates : names.predicates ≡ predicate_names
  pub operators : names.operators ≡ operator_names
  pub of_building : problem ≡ building_with (length names.objects) problem.height problem.nodes problem.shapes problem.weight
  pub rendered : facts ≡ rendering (first_state things)

-- tables that stand in the script

-- the number of a goal's variable, counted from 1, where the parameters come first; 0 for what is none
abbrev pub goal_place : ℕ → Term → ℕ
goal_place params (Var v) = v + 1 - params
goal_place params _ = 0

-- the last of the goal's variables that occurs
abbrev pub last_goal_variable : Table → ℕ
last_goal_variable table = fold max 0 (map (goal_place table.params) (flat_map (λ atom. atom.args) table.goal))

-- It is a table of the problem (by the test that decides it, since a type can keep that), within the limits of a table's block: what its
-- lines say is all of it. Its parameters have the sorts of their places, its last goal variable occurs, and without objects its goal has no
-- arguments, since before any object no line has a variable.
pub record IsSavedTable (version : ℕ) (problem : Problem) (table : Table) : Type 0 where
  pub is_one : is_table problem table ≡ true
  pub short : length table.steps ≤ greatest version limit.table_steps
  pub low : All (All (λ d. height d ≤ greatest version limit.proof_height)) (rows_of table.proofs)
  pub few_parameters : table.params ≤ last_number
  pub some : 1 ≤ length table.goal
  pub few_atoms : length table.goal ≤ greatest version limit.goal_atoms
  pub few_variables : table.goal_variable_count ≤ greatest version limit.variables
  pub last_occurs : table.goal_variable_count ≡ last_goal_variable table
  pub sorts : table.param_sorts ≡ sorts_by_places problem table.steps table.params
  pub no_objects : problem.objects ≡ 0 → flat_map (λ atom. atom.args) table.goal ≡ []

-- commands

abbrev pub IsEditOf : Problem → AtomEdit → Type 0
IsEditOf problem (atom_edit.Add atom) = IsAtomOf problem 0 atom
IsEditOf problem (atom_edit.Remove atom) = IsAtomOf problem 0 atom

abbrev pub AreRoomEditsOf : Option (List Thing) → List RoomEdit → Type 0
AreRoomEditsOf None edits = ⊥
AreRoomEditsOf (Some things) edits = All (IsAdmitted (first_state things)) edits

-- the turn of a disturbance is in range, and so is the number of its edits
abbrev pub HasTurn : ℕ → ℕ → ℕ → Type 0
HasTurn version turn edits = IsWithin of_turn turn × (1 ≤ edits) × (edits ≤ greatest version limit.edits)

-- A goal has an atom, not too many atoms and variables, and no variable where there is no object.
pub record IsGoalOf (version : ℕ) (problem : Problem) (goal : List Atom) (variable_count : ℕ) : Type 0 where
  pub some : 1 ≤ length goal
  pub few : length goal ≤ greatest version limit.goal_atoms
  pub few_variables : variable_count ≤ greatest version limit.variables
  pub no_objects : problem.objects ≡ 0 → variable_count ≡ 0
  pub atoms : All (IsAtomOf problem variable_count) goal
  pub numbered : AreNumbered variable_count goal

-- a parameter has a number from 1 to the last, and an object of the problem
abbrev pub IsBindingOf : Problem → ℕ × ℕ → Type 0
IsBindingOf problem binding = (1 ≤ binding.0) × (binding.0 ≤ last_parameter) × (binding.1 < problem.objects)

-- There is an event, and there are not too many; each is of one of the two executors.
pub record AreEventsOf (version : ℕ) (events : List ℕ) : Type 0 where
  pub some : 1 ≤ length events
  pub few : length events ≤ greatest version limit.events
  pub executors : All (IsWithin of_executor) events

-- There is a pair, and there are not too many; none of their numbers is too great.
pub record ArePairsOf (version : ℕ) (wanted : List (ℕ × ℕ)) : Type 0 where
  pub some : 1 ≤ length wanted
  pub few : length wanted ≤ greatest version limit.pairs
  pub numbers : All (λ pair. (pair.0 ≤ last_number) × (pair.1 ≤ last_number)) wanted

-- The command's atoms and objects are the problem's, and its names are among the given number of results. With a building its
-- edits are of rooms, and without one of atoms. No parameter is bound twice.
abbrev pub IsCommandOf : ℕ → Problem → Option (List Thing) → ℕ → Command → Type 0
IsCommandOf version problem building results (Plan name goal variable_count) = (name < results) × IsGoalOf version problem goal variable_count
IsCommandOf version problem building results (Pursue name goal variable_count) = (name < results) × IsGoalOf version problem goal variable_count
IsCommandOf version problem building results (Tree name nodes goal variable_count) =
    (name < results) × IsWithin of_tree nodes × IsGoalOf version problem goal variable_count
IsCommandOf version problem building results (Learn name source) = (name < results) × (source < results)
IsCommandOf version problem building results (Show name) = name < results
IsCommandOf version problem building results (Save name) = name < results
IsCommandOf version problem building results (Certify name) = name < results
IsCommandOf version problem building results (DisturbAtoms turn between edits) =
    HasTurn version turn (length edits) × (is_some building ≡ false) × All (IsEditOf problem) edits
IsCommandOf version problem building results (DisturbRooms turn between edits) =
    HasTurn version turn (length edits) × AreRoomEditsOf building edits
IsCommandOf version problem building results (Run name bindings) =
    (name < results) × All (IsBindingOf problem) bindings × AllPairs (λ one other. one.0 ≢ other.0) bindings
IsCommandOf version problem building results (Duo first second events) = (first < results) × (second < results) × AreEventsOf version events
IsCommandOf version problem building results (Edit name source prefix wanted) =
    (name < results) × (source < results) × (prefix ≤ last_number) × ArePairsOf version wanted
IsCommandOf version problem building results Facts = Unit {0}

-- the result that a command gives, by its number
abbrev pub result_given : Command → List ℕ
result_given (Plan name goal variable_count) = name ∷ []
result_given (Learn name source) = name ∷ []
result_given (Edit name source prefix wanted) = name ∷ []
result_given (Pursue name goal variable_count) = name ∷ []
result_given (Tree name nodes goal variable_count) = name ∷ []
result_given _ = []

-- the result that a plan gives
abbrev pub plan_given : Command → List ℕ
plan_given (Plan name goal variable_count) = name ∷ []
plan_given _ = []

-- the result that a command gives, if it is a table
abbrev pub table_given : Command → List ℕ
table_given (Pursue name goal variable_count) = []
table_given (Tree name nodes goal variable_count) = []
table_given command = result_given command

abbrev pub IsAmong : List ℕ → ℕ → Type 0
IsAmong results n = list_any (λ given. given == n) results ≡ true

-- the table is one of those that the script's blocks have given, or one that a command before gave
abbrev pub IsTableBefore : List ℕ → List Command → ℕ → Type 0
IsTableBefore given before name = IsAmong (given ++ flat_map table_given before) name

-- What the command names was given by a block or by a command before it, and what it learns from was given by a plan.
abbrev pub NamesEarlier : List ℕ → List Command → Command → Type 0
NamesEarlier given before (Learn name source) = IsAmong (flat_map plan_given before) source
NamesEarlier given before (Show name) = IsTableBefore given before name
NamesEarlier given before (Save name) = IsTableBefore given before name
NamesEarlier given before (Certify name) = IsTableBefore given before name
NamesEarlier given before (Run name bindings) = IsTableBefore given before name
NamesEarlier given before (Duo first second events) = IsTableBefore given before first × IsTableBefore given before second
NamesEarlier given before (Edit name source prefix wanted) = IsTableBefore given before source
NamesEarlier given before _ = Unit {0}

-- the disturbances since the last run
abbrev pub disturbs_after : ℕ → Command → ℕ
disturbs_after n (DisturbAtoms turn between edits) = n + 1
disturbs_after n (DisturbRooms turn between edits) = n + 1
disturbs_after n (Run name bindings) = 0
disturbs_after n _ = n

-- the disturbances since the last run, after each command
abbrev pub all_disturbs : List Command → List ℕ
all_disturbs commands = scan disturbs_after disturbs_after 0 commands

-- Each result is given once, first by the blocks of tables and then in the order of the commands, and named only by later ones.
pub record CommandsInRange (version : ℕ) (problem : Problem) (building : Option (List Thing)) (from_blocks : List ℕ) (results : ℕ)
    (commands : List Command) : Type 0 where
  pub each : All (IsCommandOf version problem building results) commands
  pub few : length commands ≤ greatest version limit.commands
  pub few_disturbs : All (λ n. n ≤ greatest version limit.disturbs) (all_disturbs commands)
  pub given : from_blocks ++ flat_map result_given commands ≡ range_with_len 0 results
  pub earlier : EachIndex commands (λ k. NamesEarlier from_blocks (take k commands) (slice_index_or commands k Facts))

-- The problem is valid, each of its numbers has a name, the facts and commands are over the problem's numbers, and the tables are tables of
-- it. All is within the limits. That each name is a name by `IsName` is no part of this: `Names` of px_names keeps that.
pub record IsInRange (script : ScriptValue) : Type 0 where
  pub version : IsWithin of_version script.version
  pub names : NamesInRange script.version script.names
  pub problem : ProblemInRange script.version script.names script.problem
  pub operators : length script.names.operators ≡ length script.problem.schemas
  pub facts : FactsInRange script.version script.problem script.building script.facts
  pub building : IfSome script.building (IsBuildingOf script.names script.problem script.facts)
  pub saved : All (λ one. IsSavedTable script.version script.problem one.1) script.saved
  pub few_saved : length script.saved ≤ greatest script.version limit.tables
  pub commands : CommandsInRange script.version script.problem script.building (map (λ one. one.0) script.saved)
      (length script.names.results) script.commands

-- the word of a command
abbrev pub word_of : Command → List ℕ
word_of (Plan name goal variable_count) = codes "plan"
word_of (Pursue name goal variable_count) = codes "pursue"
word_of (Tree name nodes goal variable_count) = codes "tree"
word_of (Learn name source) = codes "learn"
word_of (Show name) = codes "show"
word_of (Save name) = codes "save"
word_of (Certify name) = codes "certify"
word_of (Run name bindings) = codes "run"
word_of (Duo first second events) = codes "duo"
word_of (Edit name source prefix wanted) = codes "edit"
word_of (DisturbAtoms turn between edits) = codes "disturb"
word_of (DisturbRooms turn between edits) = codes "disturb"
word_of Facts = codes "facts"

abbrev pub IsBuiltCommand : Stage → Command → Type 0
IsBuiltCommand stage command = is_built stage (word_of command) ≡ true

-- The script has only commands that are built, and a building only where buildings are built.
pub record IsOfStage (stage : Stage) (script : ScriptValue) : Type 0 where
  pub building : is_some script.building ≡ true → is_built stage (codes "building") ≡ true
  pub commands : All (IsBuiltCommand stage) script.commands
