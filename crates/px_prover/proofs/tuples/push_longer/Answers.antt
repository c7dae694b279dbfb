use Rattle.px_prover.proofs.Tupling.{longer-next, longer-start}
use Rattle.px_prover.proofs.tuples.push_longer.Goals as goal

pub loop-object-init : goal.loop-object-init
loop-object-init c = longer-start c.args.made.now.items c.args.tuple.now

pub loop-object-preserved : goal.loop-object-preserved
loop-object-preserved c =
    longer-next c.args.made.now.items c.loop-object.made.items c.push.new.items.items c.args.tuple.now _ c.loop-object.object
    c.loop-object.invariant c.in_ok-push.ensures.ok c.in_ok-more.ensures
