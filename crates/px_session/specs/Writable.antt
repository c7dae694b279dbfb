-- Which tables can be written in a block or a certificate, whatever their numbers of steps and parameters and the heights of their
-- proofs; and that all tables of a session are so.
use Rattle.std.specs.Prelude.{◌≡◌, ◌≤◌, [], length, flat_map, All}
use Rattle.px_terms.specs.declared.problem.Problem.{Problem}
use Rattle.px_table.specs.declared.table.Table.{Table}
use Rattle.px_table.specs.WellSorted.{sorts_by_places}
use Rattle.px_script.specs.declared.command.Command.{Command}
use Rattle.px_script.specs.declared.command.Command.TheVariants.{Plan, Edit}
use Rattle.px_script.specs.declared.limits.Limit.TheVariants as limit
use Rattle.px_script.specs.Limits.{greatest}
use Rattle.px_script.specs.Ranges.{IsGoalOf, last_goal_variable}
use Rattle.px_session.specs.Sessions.{SessionState}

-- The goal has an atom, not too many atoms and variables, and its last variable occurs; without objects it has no arguments. The parameters
-- have the sorts of the places of the steps at which they stand.
pub record IsWritable (problem : Problem) (table : Table) : Type 0 where
  pub some : 1 ≤ length table.goal
  pub few_atoms : length table.goal ≤ greatest 2 limit.GoalAtoms
  pub few_variables : table.goal_variable_count ≤ greatest 2 limit.Variables
  pub last_occurs : table.goal_variable_count ≡ last_goal_variable table
  pub sorts : table.param_sorts ≡ sorts_by_places problem table.steps table.params
  pub no_objects : problem.objects ≡ 0 → flat_map (λ atom. atom.args) table.goal ≡ []

-- all tables are so, those of plans and the others
pub record HasWritableTables (problem : Problem) (state : SessionState) : Type 0 where
  pub plans : All (IsWritable problem) state.plans.tables
  pub learned : All (IsWritable problem) state.learned.tables

-- the goal that the command asks for, or the adds that it wants, are such a goal
abbrev pub AsksWritable : Problem → Command → Type 0
AsksWritable problem (Plan name goal variable_count) = IsGoalOf 2 problem goal variable_count
AsksWritable problem (Edit name source prefix wanted) = (1 ≤ length wanted) × (length wanted ≤ greatest 2 limit.Pairs)
AsksWritable problem _ = Unit {0}
