use Rattle.px_prover.proofs.Tupling.{all_longer-next}
use Rattle.px_prover.proofs.tuples.all_longer.Goals as goal

pub loop-tuple-preserved : goal.loop-tuple-preserved
loop-tuple-preserved c =
    all_longer-next c.args.objects c.args.tuples.now c.loop-tuple.made.items c.push_longer.new.made.items c.loop-tuple.tuple-index _
    c.loop-tuple-test.true c.tuple-item.is c.loop-tuple.invariant c.in_ok-push_longer.ensures
