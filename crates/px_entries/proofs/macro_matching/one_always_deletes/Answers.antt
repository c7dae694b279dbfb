use Rattle.std.proofs.Common.{◌≡◌, false}
use Rattle.px_base.specs.ListLaws.{All-at}
use Rattle.px_question.specs.Answers.{object_terms}
use Rattle.px_table.specs.Kernels.{instance_under}
use Rattle.px_table.specs.Tables.{IsStepOf}
use Rattle.px_terms.specs.Operators.{deletes}
use Rattle.px_terms.specs.Substitution.{substitute_atom}
use Rattle.px_terms.specs.declared.instance.OpInst.{OpInst}
use Rattle.px_base.specs.Answers.{both_answers}
use Rattle.px_base.proofs.Loops.{contains_here}
use Rattle.px_entries.proofs.macro_matching.one_always_deletes.Goals as goal

pub always_deletes-requires-clause-step : goal.always_deletes-requires-clause-step
always_deletes-requires-clause-step c = (
  c.requires.steps.0,
  All-at (IsStepOf c.args.problem.now c.requires.steps.0) c.args.steps.now c.step-item.result c.requires.steps.1
      (contains_here c.args.steps.now c.loop-step.step-index c.step-item.result c.loop-step-test.true c.step-item.is),
)

pub returns-then-always_deletes : goal.returns-then-always_deletes
returns-then-always_deletes c = λ _ sigma kept.
    both_answers (deletes c.args.problem.now (instance_under sigma c.step-item.result)
    (substitute_atom (object_terms sigma) c.args.atom.now))
    (All-at (λ (step : OpInst). deletes c.args.problem.now (instance_under sigma step)
    (substitute_atom (object_terms sigma) c.args.atom.now) ≡ false) c.args.steps.now c.step-item.result kept
    (contains_here c.args.steps.now c.loop-step.step-index c.step-item.result c.loop-step-test.true c.step-item.is))
    (c.always_deletes.ensures c.if-always_deletes.true sigma)
