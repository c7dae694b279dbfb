use Rattle.std.proofs.Common.{take}
use Rattle.px_rooms.specs.States.{robot_rooms}
use Rattle.px_rooms.proofs.Starting.{robots-next}
use Rattle.px_rooms.proofs.start.robots_of.Goals as goal

pub loop-thing-preserved : goal.loop-thing-preserved
loop-thing-preserved c =
    robots-next c.args.things.now c.loop-thing.thing-index _ _ c.loop-thing-test.true
    (c.with_thing-robots.ensures (robot_rooms (take c.loop-thing.thing-index c.args.things.now)) c.loop-thing.invariant)
