use Rattle.std.specs.Prelude.{length}
use Rattle.std.proofs.Common.{ap, arith}
use Rattle.px_rooms.specs.States.{RoomState}
use Rattle.px_rooms.proofs.Counting.{rendering-few}
use Rattle.px_rooms.proofs.world.RoomWorld.render.Goals as goal

pub sense-requires-clause-room : goal.sense-requires-clause-room
sense-requires-clause-room c =
    let few = rendering-few c.args.self.now c.known.ensures.state in
    let things = ap (λ (s : RoomState). length s.things) c.self.view_is in
    omega (arith, few, things, c.self.inside.things.ok.0, c.in_ok-reserve.ensures.ok)
