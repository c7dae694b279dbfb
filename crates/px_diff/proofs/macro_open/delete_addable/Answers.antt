use Rattle.px_base.specs.ListLaws.{All-at}
use Rattle.px_diff.specs.MacroOpen.{DeletesAddable}
use Rattle.px_base.proofs.Loops.{all_before_next, all_whole, contains_here, is_false, is_true, said_no, said_yes}
use Rattle.px_diff.proofs.macro_open.delete_addable.Goals as goal

pub returns-then-not-deletes_addable : goal.returns-then-not-deletes_addable
returns-then-not-deletes_addable c = is_false (λ all.
    said_no c.deletes_addable.result c.deletes_addable.ensures c.if-not-deletes_addable.true
    (All-at (DeletesAddable c.args.problem.now) c.args.steps.now c.step-item.result all
    (contains_here c.args.steps.now c.loop-step.step-index c.step-item.result c.loop-step-test.true c.step-item.is)))

pub loop-step-preserved : goal.loop-step-preserved
loop-step-preserved c =
    all_before_next (DeletesAddable c.args.problem.now) c.args.steps.now c.loop-step.step-index c.step-item.result c.loop-step.invariant
    c.loop-step-test.true c.step-item.is
    (said_yes c.deletes_addable.result c.deletes_addable.ensures c.if-not-deletes_addable.false)

pub returns : goal.returns
returns c =
    is_true (all_whole (DeletesAddable c.args.problem.now) c.args.steps.now c.loop-step.step-index c.loop-step.invariant
    c.loop-step-test.false)
