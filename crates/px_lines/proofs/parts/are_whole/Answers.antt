use Rattle.px_lines.proofs.Common.{arith, drop, length-drop, length-map, map, part_view}
use Rattle.px_lines.proofs.RowProofs.{too-many-owed}
use Rattle.px_lines.proofs.parts.are_whole.Goals as goal

pub returns-then-owed-parts : goal.returns-then-owed-parts
returns-then-owed-parts c =
    let rest = drop c.loop-place.place c.args.parts.now in
    too-many-owed c.loop-place.owed (map part_view rest) (map part_view c.args.parts.now) c.loop-place.invariant
    (omega (
      arith,
      length-map rest part_view,
      length-drop c.loop-place.place c.args.parts.now,
      c.if-owed-parts.true,
      c.loop-place-test.true,
    ))
