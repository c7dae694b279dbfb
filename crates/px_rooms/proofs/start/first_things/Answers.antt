use Rattle.px_rooms.proofs.Starting.{add-next}
use Rattle.px_rooms.proofs.start.first_things.Goals as goal

pub loop-thing-preserved : goal.loop-thing-preserved
loop-thing-preserved c =
    add-next c.args.things.now c.loop-thing.thing-index _ _ _ c.loop-thing-test.true c.in_ok-add_thing.ensures c.loop-thing.invariant
