use Rattle.std.proofs.Common.{arith}
use Rattle.px_cert.proofs.LineRooms.{sorts_few}
use Rattle.px_cert.proofs.operator_lines.operator_line.Goals as goal

pub overflow_cast-schema-2 : goal.overflow_cast-schema-2
overflow_cast-schema-2 c =
    let few = sorts_few c.args.draft.now c.in_ok-rest.rest.now c.in_ok-sorts.sorts.items c.in_ok-sorts.rest.now c.requires.sound
    c.in_ok-sorts.ensures in
    let same = c.in_ok-sorts.sorts.ok.0 in
    omega (arith, few, same, c.len-2.ensures)
