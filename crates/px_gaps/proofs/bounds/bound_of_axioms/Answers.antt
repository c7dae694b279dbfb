use Rattle.std.proofs.Common.{arith}
use Rattle.px_gaps.proofs.BoundLoops.{axioms-all, axioms-init, axioms-next}
use Rattle.px_gaps.proofs.bounds.bound_of_axioms.Goals as goal

pub loop-number-init : goal.loop-number-init
loop-number-init c = axioms-init c.args.problem.now c.args.table.now c.args.pred

pub loop-number-preserved : goal.loop-number-preserved
loop-number-preserved c =
    axioms-next c.args.problem.now c.args.table.now c.args.pred c.loop-number.number c.loop-number.bound c.in_ok-uses.uses
    c.in_ok-bound.bound c.loop-number.invariant c.in_ok-uses.ensures c.in_ok-bound.ensures

pub returns : goal.returns
returns c = axioms-all c.args.problem.now c.args.table.now c.args.pred c.loop-number.number c.loop-number.bound
    (omega (arith, c.loop-number-test.false, c.count-number-end.ensures.count)) c.loop-number.invariant
