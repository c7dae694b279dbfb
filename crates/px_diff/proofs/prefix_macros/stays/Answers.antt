use Rattle.std.proofs.Common.{◌<◌, arith}
use Rattle.px_base.specs.ListLaws.{All-at}
use Rattle.px_base.proofs.Loops.{contains_here}
use Rattle.px_terms.specs.declared.instance.OpInst.{OpInst}
use Rattle.std.specs.Prelude.{length}
use Rattle.px_table.proofs.KeptSteps.{kept-all, kept-next, kept-start}
use Rattle.px_diff.proofs.prefix_macros.stays.Goals as goal

pub may_spoil-requires-clause-op : goal.may_spoil-requires-clause-op
may_spoil-requires-clause-op c =
    All-at (λ (step : OpInst). step.op < length c.args.problem.now.schemas) c.args.steps.now c.index-steps-before.result c.requires.steps
    (contains_here c.args.steps.now c.loop-before.before c.index-steps-before.result c.loop-before-test.true c.index-steps-before.is)

pub loop-before-init : goal.loop-before-init
loop-before-init c = λ sigma. kept-start c.args.problem.now c.args.steps.now sigma 1 c.args.mark.now

pub loop-before-preserved : goal.loop-before-preserved
loop-before-preserved c =
    λ sigma. kept-next c.args.problem.now c.args.steps.now sigma 1 c.args.mark.now c.loop-before.before c.index-steps-before.result
    c.loop-before-test.true c.index-steps-before.is (c.loop-before.invariant sigma)
    (λ low column row. c.may_spoil.ensures c.if-may_spoil.false (omega (arith, column)) (omega (arith, row)) sigma)

pub returns : goal.returns
returns c = λ _ sigma _.
    kept-all c.args.problem.now c.args.steps.now sigma 1 c.args.mark.now c.loop-before.before c.loop-before-test.false
    (c.loop-before.invariant sigma)
