use Rattle.std.proofs.Common.{arith}
use Rattle.px_demo.specs.Script.{room_line}
use Rattle.px_demo.proofs.Texts.{first-line, grows}
use Rattle.px_demo.proofs.script.push_rooms.Goals as goal

pub loop-room-preserved : goal.loop-room-preserved
loop-room-preserved c =
    grows _ _ _ _ _ _ c.in_ok-push_room.ensures
    (first-line room_line c.loop-room.room c.args.count (omega (arith, c.loop-room-test.true))) c.loop-room.invariant
