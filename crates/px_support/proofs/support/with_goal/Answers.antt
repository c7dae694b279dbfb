use Rattle.std.proofs.Common.{[], List, map, refl, sym, subst}
use Rattle.std.specs.Prelude.{All}
use Rattle.px_terms.specs.Validity.{IsGroundInstanceOf}
use Rattle.px_proof.specs.Derivation.{Derivation}
use Rattle.px_proof.specs.ProofTerm.{derivation_of}
use Rattle.px_ends.specs.Made.{MovesRows}
use Rattle.px_ends.specs.Tasks.{initial_node}
use Rattle.px_support.specs.Asking.{task_for}
use Rattle.px_support.proofs.RowSteps.{first_row-here, rows-push}
use Rattle.px_support.proofs.support.with_goal.Goals as goal

pub first_row-requires-clause-steps : goal.first_row-requires-clause-steps
first_row-requires-clause-steps c =
    subst (All (IsGroundInstanceOf c.args.asked.now.problem.now)) (sym c.deref.ensures.value) c.requires.taken.all_ground

pub returns-clause-rows : goal.returns-clause-rows
returns-clause-rows c =
    let task = task_for c.args.asked.now in
    subst (λ (rs : List (List Derivation)). MovesRows task (initial_node task) [] c.args.moves.now rs)
    (sym (rows-push c.args.walk.rows.items c.push.new.items.items c.in_ok-row.row c.in_ok-push.ensures.ok))
    (c.requires.taken.rows (map derivation_of c.in_ok-row.row)
    (first_row-here task.problem c.args.walk.steps.items c.deref.result.now c.args.walk.model.atoms task.goal task.goal task.variable_count
    (map derivation_of c.in_ok-row.row) c.deref.ensures.value refl c.in_ok-row.ensures))
