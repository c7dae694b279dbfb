use Rattle.std.proofs.Common.{arith}
use Rattle.px_demo.specs.Script.{door_line}
use Rattle.px_demo.proofs.Texts.{first-line, grows}
use Rattle.px_demo.proofs.script.push_doors.Goals as goal

pub loop-door-preserved : goal.loop-door-preserved
loop-door-preserved c =
    grows _ _ _ _ _ _ c.in_ok-push_door.ensures
    (first-line door_line c.loop-door.door c.args.count (omega (arith, c.loop-door-test.true))) c.loop-door.invariant
