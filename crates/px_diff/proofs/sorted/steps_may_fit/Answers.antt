use Rattle.std.proofs.Common.{arith}
use Rattle.px_diff.proofs.SortedLemmas.{read-step-fits}
use Rattle.px_diff.proofs.sorted.steps_may_fit.Goals as goal

pub returns-then-not-step_may_fit : goal.returns-then-not-step_may_fit
returns-then-not-step_may_fit c = λ none sigma extends is.
    let prefix = c.args.prefix.now in
    c.step_may_fit.ensures c.if-not-step_may_fit.true sigma extends
    (read-step-fits prefix.request.problem.now prefix.table.now prefix.count sigma is c.as_slice.result.now c.loop-place.place
    c.index-as_slice-place.result c.as_slice.ensures c.index-as_slice-place.is (omega (arith, c.loop-place-test.true)))
