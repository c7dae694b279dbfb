use Rattle.px_prover.proofs.Tupling.{tuples-next, tuples-start}
use Rattle.px_prover.proofs.tuples.tuples.Goals as goal

pub loop-place-init : goal.loop-place-init
loop-place-init c =
    tuples-start c.args.objects c.push.new.items.items c.new-made.result.items c.from_vec.result c.new.result.items c.new-made.ensures.items
    c.in_ok-push.ensures.ok c.from_vec.ensures c.new.ensures.items

pub loop-place-preserved : goal.loop-place-preserved
loop-place-preserved c =
    tuples-next c.args.objects c.loop-place._place c.loop-place.made.items c.deref.result.now c.in_ok-made.made.items c.loop-place.invariant
    c.deref.ensures.value c.in_ok-made.ensures
