use Rattle.std.proofs.Common.{arith}
use Rattle.px_prover.proofs.Valuing.{ends-push}
use Rattle.px_prover.proofs.gathering.roots_of.Goals as goal

pub loop-variable-preserved : goal.loop-variable-preserved
loop-variable-preserved c =
    let both =
    ends-push c.args.bind.now c.loop-variable.roots.items c.push.new.items.items c.loop-variable.variable c.resolve-root.result
    c.loop-variable.invariant.long c.loop-variable.invariant.each
    (record { same = c.resolve-root.ensures.value; is_root = c.resolve-root.ensures.root }) c.in_ok-push.ensures.ok in
    record { long = both.0; within = omega (arith, c.loop-variable-test.true, c.variables-count.ensures.count); each = both.1 }
