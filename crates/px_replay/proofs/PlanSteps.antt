-- What opening a plan asks for, of the plan's table.
use Rattle.std.specs.Prelude.{◌≡◌, ◌+◌, ◌-◌, ◌^◌, ◌<◌, ◌≤◌, ℕ, List, [], ◌∷◌, map, length, sum_by, All}
use Rattle.std.proofs.Common.{refl, ◌∙◌, subst, arith}
use Rattle.std.proofs.lemmas.List.Elements.{All-nil, All-cons, All-head, All-tail}
use Rattle.std.proofs.lemmas.List.Sums.{sum_by-cons}
use Rattle.px_base.specs.Bounds.{u32_max}
use Rattle.px_terms.specs.declared.atom.Atom.{Atom}
use Rattle.px_terms.specs.declared.instance.OpInst.{OpInst}
use Rattle.px_terms.specs.declared.problem.Problem.{Problem}
use Rattle.px_terms.specs.declared.term.Term.{Term}
use Rattle.px_terms.specs.declared.term.Term.TheVariants.{Obj, Var, Any as WildCard}
use Rattle.px_terms.specs.Language.{IsVariableBelow}
use Rattle.px_terms.specs.Validity.{IsTermOf}
use Rattle.px_proof.specs.declared.proof.Proof.{Proof}
use Rattle.px_proof.specs.ProofTerm.{derivation_of}
use Rattle.px_table.specs.declared.table.Table.{Table}
use Rattle.px_table.specs.Tables.{IsStepOf, IsTable, rows_of}
use Rattle.px_terms.proofs.VariableLemmas.{length-variables}
use Rattle.px_replay.specs.FreshOf.{row_fresh}
use Rattle.px_replay.specs.FreshVariables.{fresh_in, fresh_variables}
use Rattle.px_replay.specs.Opened.{goal_objects, opened_steps, step_variables, steps_opened}
use Rattle.px_replay.specs.Replaying.{HasSchema}
use Rattle.px_replay.proofs.OpenSteps.{fresh-sum}

pub rows-fresh : (rows : List (List Proof)) → sum_by (sum_by fresh_in) (rows_of rows) ≡ sum_by row_fresh rows
rows-fresh [] = refl
rows-fresh (row ∷ rows) =
    omega (
      arith,
      fresh-sum row,
      rows-fresh rows,
      sum_by-cons row_fresh row rows,
      sum_by-cons (sum_by fresh_in) (map derivation_of row) (rows_of rows),
    )

pub four_sums : (table : Table) → fresh_variables table
    ≡ step_variables table.steps + goal_objects table.goal + table.goal_variable_count + sum_by row_fresh table.proofs
four_sums table = omega (arith, rows-fresh table.proofs)

schemas : (problem : Problem) (first : ℕ) (steps : List OpInst) → All (IsStepOf problem 0) steps
    → All (HasSchema problem) (opened_steps first steps)
schemas problem first [] are = All-nil (HasSchema problem)
schemas problem first (s ∷ steps) are =
    let here = All-head (IsStepOf problem 0) s steps are in
    All-cons (HasSchema problem) _ _ record { op = here.op; count = length-variables first (length s.args) ∙ here.count }
    (schemas problem (first + length s.args) steps (All-tail (IsStepOf problem 0) s steps are))

pub schemas_opened : (problem : Problem) (plan : Table) → IsTable problem plan → plan.params ≡ 0
    → All (HasSchema problem) (steps_opened plan)
schemas_opened problem plan is_table no_params =
    schemas problem 0 plan.steps (subst (λ (k : ℕ). All (IsStepOf problem k) plan.steps) no_params is_table.in_range.steps)
