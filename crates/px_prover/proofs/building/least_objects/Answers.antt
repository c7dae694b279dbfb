use Rattle.std.proofs.Common.{arith}
use Rattle.px_prover.proofs.Making.{least-push}
use Rattle.px_prover.proofs.building.least_objects.Goals as goal

pub loop-variable-preserved : goal.loop-variable-preserved
loop-variable-preserved c =
    let both =
    least-push c.args.bind.now c.loop-variable.objects.items c.push.new.items.items c.loop-variable.variable c.object_of.result
    c.loop-variable.invariant.long c.loop-variable.invariant.each
    (record {
      root = c.resolve-root.result;
      is_root = c.resolve-root.ensures.root;
      same = c.resolve-root.ensures.value;
      object_is = c.object_of.ensures;
    }) c.in_ok-push.ensures.ok in
    record { long = both.0; within = omega (arith, c.loop-variable-test.true, c.variables-variable-end.ensures.count); each = both.1 }
