-- What the lines so far keep: that what they have declared is in range. No part of what a script is, but what its reader says of the lines
-- so far.
use Rattle.std.specs.Prelude.{map, ◌∷◌, ◌++◌, Bool, ◌≡◌, ◌≤◌, ◌+◌, ℕ, true, false, List, [], length, take, max, Option, None, Some, All, IfSome, EachIndex, is_some, fold, slice_index_or, unwrap_or}
use Rattle.std.specs.List.{flat_map, list_any}
use Rattle.px_script.specs.Limits as limit
use Rattle.px_script.specs.Declarations.{problem_here, WrittenTable, BlockKind, OpenBlock, of_table_steps, of_table_rows, Declared, OpenOperator, Roles, operator_here, number_in, block_here, predicate_names, predicate_arities, operator_names, own_problem}
use Rattle.px_script.specs.Ranges.{IsSavedTable, IsTableBefore, goal_place, IsWithin, AreNamesOf, NamesInRange, ProblemInRange, FactsInRange, CommandsInRange, HasShortLists, IsAmong, IsThingAfter, plan_given, disturbs_after}
use Rattle.px_script.specs.Limits.{last_number, greatest, of_version}
use Rattle.px_proof.specs.Derivation.{height as height_of}
use Rattle.px_proof.specs.LayerLaws.{HasNoOpenPlace}
use Rattle.px_script.specs.Common.{NameLists, has_name, IsBoxAt, IsDoorAt, IsRoomAt, StandsRight, standings, Problem, Thing, robot_name}
use Rattle.px_rooms.specs.States.{robot_rooms}
use Rattle.px_terms.specs.Validity.{IsSchemaOf}
use Rattle.px_script.specs.Commands.{Command}
use Rattle.px_script.specs.Statements.{Block, building_block}
use Rattle.px_script.specs.Causes.{is_robot}
use Rattle.px_world.specs.declared.thing.Thing.TheVariants.{Room}

-- The operator is in range, and has the number that its schema will have.
pub record IsOperatorInRange (version : ℕ) (names : NameLists) (problem : Problem) (o : OpenOperator) : Type 0 where
  pub named : length names.operators ≡ length problem.schemas + 1
  pub params : o.schema.params ≡ length o.parameters
  pub schema : IsSchemaOf problem (length problem.schemas) o.schema
  pub no_objects : problem.objects ≡ 0 → o.schema.params ≡ 0
  pub short_lists : HasShortLists version o.schema

-- The operator whose block is open, or none; then each operator has its schema. Those of a building have theirs in the end.
abbrev pub OperatorsInRange : ℕ → NameLists → Problem → Option (List Thing) → Option OpenOperator → Type 0
OperatorsInRange version names problem things (Some o) = IsOperatorInRange version names problem o
OperatorsInRange version names problem None None = length names.operators ≡ length problem.schemas
OperatorsInRange version names problem (Some things) None = Unit {0}

-- The rooms, doors and boxes are those of the building.
pub record AreRolesOf (objects : List (List ℕ)) (roles : Roles) (things : List Thing) : Type 0 where
  pub rooms : All (λ n. IsRoomAt (standings things) (number_in n objects)) roles.rooms
  pub doors : All (λ n. IsDoorAt (standings things) (number_in n objects)) roles.doors
  pub boxes : All (λ n. IsBoxAt (standings things) (number_in n objects)) roles.boxes

-- The things so far stand right, and there is at most one robot.
pub record AreStanding (things : List Thing) : Type 0 where
  pub right : All (StandsRight (standings things)) (standings things)
  pub robots : All (IsRoomAt (standings things)) (robot_rooms things)
  pub one_robot : length (robot_rooms things) ≤ 1
  pub earlier : EachIndex things (λ k. IsThingAfter (take k things) (slice_index_or things k Room))

-- The things so far are a building's, and the names that aren't results are those of the building.
pub record IsBegun (objects predicates operators : List (List ℕ)) (arities : List ℕ) (things : List Thing) : Type 0 where
  pub standing : AreStanding things
  pub objects_are : length objects ≡ length (standings things) + 1
  pub robot_first : slice_index_or objects 0 [] ≡ robot_name
  pub predicates_are : predicates ≡ predicate_names
  pub operators_are : operators ≡ operator_names
  pub arities_are : arities ≡ predicate_arities

-- Plans are results of commands, and tables those of blocks and of commands.
pub record ResultsInRange (from_blocks : List ℕ) (results : List (List ℕ)) (roles : Roles) (commands : List Command) (since_run : ℕ)
    : Type 0 where
  pub plan_names : All (λ n. has_name n results ≡ true) roles.plans
  pub plans : All (λ n. IsAmong (flat_map plan_given commands) (number_in n results)) roles.plans
  pub table_names : All (λ n. has_name n results ≡ true) roles.tables
  pub tables : All (λ n. IsTableBefore from_blocks commands (number_in n results)) roles.tables
  pub few : length results ≤ length from_blocks + length commands
  pub disturbs : since_run ≡ fold disturbs_after 0 commands

-- What the lines of a table's block keep: the table is within the limits, its proofs have no open place, and from its goal on that has an
-- atom, its last variable occurs, and it has no arguments where there are no objects.
pub record IsTableBegun (version : ℕ) (t : WrittenTable) : Type 0 where
  pub short : length t.steps ≤ greatest version limit.table_steps
  pub few_parameters : t.parameters ≤ last_number
  pub low : All (All (λ d. height_of d ≤ greatest version limit.proof_height)) t.rows
  pub closed : All (All HasNoOpenPlace) t.rows

pub record IsTableAimed (version objects : ℕ) (t : WrittenTable) : Type 0 where
  pub begun : IsTableBegun version t
  pub some : 1 ≤ length t.goal
  pub few_atoms : length t.goal ≤ greatest version limit.goal_atoms
  pub few_variables : t.goal_variable_count ≤ greatest version limit.variables
  pub last_occurs : t.goal_variable_count ≡ fold max 0 (map (goal_place t.parameters) (flat_map (λ atom. atom.args) t.goal))
  pub no_objects : objects ≡ 0 → flat_map (λ atom. atom.args) t.goal ≡ []

abbrev pub IsBlockInRange : ℕ → ℕ → BlockKind → Type 0
IsBlockInRange version objects (of_table_steps t) = IsTableBegun version t
IsBlockInRange version objects (of_table_rows t) = IsTableAimed version objects t
IsBlockInRange version objects kind = Unit {0}

-- the results that blocks of tables give: those that are closed, then that which is open
abbrev pub open_result : BlockKind → List ℕ
open_result (of_table_steps t) = t.name ∷ []
open_result (of_table_rows t) = t.name ∷ []
open_result kind = []

abbrev pub open_result_here : Option OpenBlock → List ℕ
open_result_here None = []
open_result_here (Some block) = open_result block.kind

abbrev pub from_blocks : Declared → List ℕ
from_blocks d = map (λ one. one.0) d.saved ++ open_result_here d.block

-- nothing of a domain
pub record HasNoDomain (names : NameLists) (all_arities : List ℕ) : Type 0 where
  pub objects : names.objects ≡ []
  pub predicates : names.predicates ≡ []
  pub operators : names.operators ≡ []
  pub arities : all_arities ≡ []

-- In a building's block there is a building, and a building whose block is closed has its robot.
abbrev pub SuitsBlock : Option Block → Option (List Thing) → Type 0
SuitsBlock (Some building_block) things = is_some things ≡ true
SuitsBlock _ things = IfSome things (λ things. list_any is_robot things ≡ true)

-- Only the first line with tokens gives a version.
abbrev pub IsVersionAfter : Bool → ℕ → Type 0
IsVersionAfter false version = version ≡ 1
IsVersionAfter true version = IsWithin of_version version

-- The sorts have names, and the sorts of objects are among them; no more objects have one than there are.
pub record SortsInRange (version objects : ℕ) (sorts : List (List ℕ)) (object_sorts : List ℕ) : Type 0 where
  pub sort_names : AreNamesOf version sorts
  pub count : length object_sorts ≤ objects
  pub numbers : All (λ sort. sort ≤ length sorts) object_sorts

pub record AreInRange (d : Declared) : Type 0 where
  pub version : IsVersionAfter d.begun d.version
  pub sorts : SortsInRange d.version (length d.names.objects) d.sorts d.object_sorts
  pub names : NamesInRange d.version d.names
  pub problem : ProblemInRange d.version d.names (own_problem d)
  pub operators : OperatorsInRange d.version d.names (own_problem d) d.things (operator_here d.block)
  pub facts : FactsInRange d.version (own_problem d) d.things d.facts
  pub building : IfSome d.things (IsBegun d.names.objects d.names.predicates d.names.operators d.arities)
  pub roles : AreRolesOf d.names.objects d.roles (unwrap_or d.things [])
  pub block : SuitsBlock (block_here d) d.things
  pub own_domain : d.own_domain ≡ false → d.things ≡ None → HasNoDomain d.names d.arities
  pub saved : All (λ one. IsSavedTable d.version (problem_here d) one.1) d.saved
  pub few_saved : length (from_blocks d) ≤ greatest d.version limit.tables
  pub table_block : IfSome d.block (λ block. IsBlockInRange d.version (length d.names.objects) block.kind)
  pub commands : CommandsInRange d.version (own_problem d) d.things (from_blocks d) (length d.names.results) d.commands
  pub results : ResultsInRange (from_blocks d) d.names.results d.roles d.commands d.disturbs
  pub few_disturbs : d.disturbs ≤ greatest d.version limit.disturbs
