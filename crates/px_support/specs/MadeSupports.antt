-- The rows of moves are a support of the steps that the moves take.
use Rattle.std.specs.Prelude.{List, [], All}
use Rattle.px_terms.specs.Plans.{Carries}
use Rattle.px_terms.specs.Sorts.{IsWellSorted}
use Rattle.px_terms.specs.Validity.{IsAtomOf, IsInstanceOf, IsValid}
use Rattle.px_proof.specs.Derivation.{Derivation}
use Rattle.px_table.specs.declared.entry.Move.{Move}
use Rattle.px_table.specs.Supports.{Supports}
use Rattle.px_table.specs.Tables.{AreOfProblem}
use Rattle.px_entries.specs.Learned.{AreLearned}
use Rattle.px_ends.specs.Ends.{AreMoves}
use Rattle.px_ends.specs.Made.{MovesRows}
use Rattle.px_ends.specs.Tasks.{Task, initial_node, steps_of}

-- what the rows of moves say of the steps that these take
pub record AreSupport (task : Task) (moves : List Move) (rows : List (List Derivation)) : Type 0 where
  pub supports : Supports task.problem task.initial (steps_of task.tables [] moves) task.goal task.variable_count rows
  pub of_problem : AreOfProblem task.problem rows
  pub carries : Carries task.problem task.initial (steps_of task.tables [] moves) task.variable_count task.goal
  pub instances : All (IsInstanceOf task.problem) (steps_of task.tables [] moves)
  pub fitting : All (IsWellSorted task.problem) (steps_of task.tables [] moves)

-- Where moves can be made, their rows are a support of their steps, which fit, and the goal, over the problem's numbers. So the steps lead
-- from the initial model to the goal in each run.
abbrev pub MovesSupport : Type 0
MovesSupport = (task : Task) (moves : List Move) (rows : List (List Derivation)) → IsValid task.problem
    → All (IsAtomOf task.problem task.variable_count) task.goal
    → AreLearned task.problem task.tables → AreMoves task moves → MovesRows task (initial_node task) [] moves rows
    → AreSupport task moves rows
