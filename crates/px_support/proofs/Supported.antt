-- What is answered is a support, by the law of the rows of moves.
use Rattle.std.specs.Prelude.{◌≡◌, List, [], All, Result, Ok, Err, IfOk}
use Rattle.std.proofs.Common.{sym, subst}
use Rattle.px_base.proofs.Loops.{ok_map}
use Rattle.px_base.specs.declared.no_memory.NoMemory.{NoMemory}
use Rattle.px_terms.specs.declared.instance.OpInst.{OpInst}
use Rattle.px_terms.specs.Plans.{Carries}
use Rattle.px_terms.specs.Sorts.{IsWellSorted}
use Rattle.px_terms.specs.Validity.{IsAtomOf, IsInstanceOf, IsValid}
use Rattle.px_table.specs.declared.entry.Move.{Move}
use Rattle.px_table.specs.Supports.{Supports}
use Rattle.px_table.specs.Tables.{AreOfProblem, rows_of}
use Rattle.px_entries.specs.Learned.{AreLearned}
use Rattle.px_ends.specs.Ends.{AreMoves}
use Rattle.px_ends.specs.Made.{MovesRows}
use Rattle.px_ends.specs.Tasks.{Task, initial_node, steps_of}
use Rattle.px_support.specs.declared.support.Support.{Support}
use Rattle.px_support.specs.MadeSupports.{AreSupport, MovesSupport}

-- what is said of the answer
pub record IsSupport (task : Task) (support : Support) : Type 0 where
  pub supports : Supports task.problem task.initial support.steps task.goal task.variable_count (rows_of support.rows.items)
  pub of_problem : AreOfProblem task.problem (rows_of support.rows.items)
  pub carries : Carries task.problem task.initial support.steps task.variable_count task.goal
  pub instances : All (IsInstanceOf task.problem) support.steps
  pub fitting : All (IsWellSorted task.problem) support.steps

by-steps : (task : Task) (moves : List Move) (support : Support) → support.steps ≡ steps_of task.tables [] moves
    → AreSupport task moves (rows_of support.rows.items) → IsSupport task support
by-steps task moves support steps is = record {
  supports =
      subst (λ (s : List OpInst). Supports task.problem task.initial s task.goal task.variable_count (rows_of support.rows.items))
      (sym steps) is.supports;
  of_problem = is.of_problem;
  carries = subst (λ (s : List OpInst). Carries task.problem task.initial s task.variable_count task.goal) (sym steps) is.carries;
  instances = subst (All (IsInstanceOf task.problem)) (sym steps) is.instances;
  fitting = subst (All (IsWellSorted task.problem)) (sym steps) is.fitting;
}

module _ (law : MovesSupport) (task : Task) (moves : List Move) (result : Result Support NoMemory) (valid : IsValid task.problem)
    (goal_of : All (IsAtomOf task.problem task.variable_count) task.goal) (learned : AreLearned task.problem task.tables) (can : AreMoves task moves)
    (steps : IfOk result (λ support. support.steps ≡ steps_of task.tables [] moves))
    (rows : IfOk result (λ support. MovesRows task (initial_node task) [] moves (rows_of support.rows.items))) where
  if_support : IfOk result (IsSupport task)
  if_support = by result steps rows where
    by : (result : Result Support NoMemory) → IfOk result (λ support. support.steps ≡ steps_of task.tables [] moves)
        → IfOk result (λ support. MovesRows task (initial_node task) [] moves (rows_of support.rows.items))
        → IfOk result (IsSupport task)
    by (Ok support) steps rows =
        by-steps task moves support steps (law task moves (rows_of support.rows.items) valid goal_of learned
        can rows)
    by (Err e) steps rows = tt

  pub if_supports : IfOk result (λ support. Supports task.problem task.initial support.steps task.goal task.variable_count
      (rows_of support.rows.items))
  if_supports =
      ok_map (IsSupport task) (λ support. Supports task.problem task.initial support.steps task.goal task.variable_count (rows_of support.rows.items))
      (λ support is. is.supports) result if_support

  pub if_of_problem : IfOk result (λ support. AreOfProblem task.problem (rows_of support.rows.items))
  if_of_problem =
      ok_map (IsSupport task) (λ support. AreOfProblem task.problem (rows_of support.rows.items))
      (λ support is. is.of_problem) result if_support

  pub if_instances : IfOk result (λ support. All (IsInstanceOf task.problem) support.steps)
  if_instances =
      ok_map (IsSupport task) (λ support. All (IsInstanceOf task.problem) support.steps) (λ support is. is.instances) result if_support

  pub if_fitting : IfOk result (λ support. All (IsWellSorted task.problem) support.steps)
  if_fitting =
      ok_map (IsSupport task) (λ support. All (IsWellSorted task.problem) support.steps) (λ support is. is.fitting) result if_support

  pub if_carries : IfOk result (λ support. Carries task.problem task.initial support.steps task.variable_count task.goal)
  if_carries =
      ok_map (IsSupport task) (λ support. Carries task.problem task.initial support.steps task.variable_count task.goal)
      (λ support is. is.carries) result if_support
