-- A plan that was found.
use Rattle.std.specs.Prelude.{◌≡◌, ◌<◌, [], length, All}
use Rattle.px_base.specs.Bounds.{u32_max}
use Rattle.px_terms.specs.Plans.{Carries}
use Rattle.px_terms.specs.Sorts.{IsWellSorted}
use Rattle.px_terms.specs.Validity.{IsInstanceOf}
use Rattle.px_table.specs.Supports.{Supports}
use Rattle.px_table.specs.Tables.{AreOfProblem, rows_of}
use Rattle.px_ends.specs.ByValue.{IsFound}
use Rattle.px_ends.specs.Made.{MovesRows}
use Rattle.px_ends.specs.Tasks.{Task, initial_node, steps_of}
use Rattle.px_search.specs.declared.ends.Found.{Found}

-- the moves lead to the first solved node; these are the steps that they take, and the rows of their table, which carry the steps
-- to the goal
pub record IsPlanned (task : Task) (plan : Found) : Type 0 where
  pub found : IsFound task task.problem.weight plan.moves
  pub steps : plan.steps ≡ steps_of task.tables [] plan.moves
  pub rows : MovesRows task (initial_node task) [] plan.moves (rows_of plan.support.items)
  pub supports : Supports task.problem task.initial plan.steps task.goal task.variable_count (rows_of plan.support.items)
  pub of_problem : AreOfProblem task.problem (rows_of plan.support.items)
  pub instances : All (IsInstanceOf task.problem) plan.steps
  pub fitting : All (IsWellSorted task.problem) plan.steps
  pub carries : Carries task.problem task.initial plan.steps task.variable_count task.goal
  pub short : length plan.steps < u32_max
