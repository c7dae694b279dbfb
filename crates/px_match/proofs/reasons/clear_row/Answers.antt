use Rattle.std.specs.Prelude.{◌+◌, ◌*◌}
use Rattle.std.proofs.Common.{arith}
use Rattle.px_match.proofs.Floors.{cells_apart}
use Rattle.px_match.proofs.reasons.clear_row.Goals as goal

pub loop-earlier-preserved : goal.loop-earlier-preserved
loop-earlier-preserved c = λ other k apart below is.
    let cell =
    cells_apart c.args.params c.args.place other c.loop-earlier.earlier k c.cell_at.result c.cell_at.ensures apart
    (omega (arith, c.loop-earlier-test.true, c.requires.place)) below in
    c.take_reason.ensures (other * c.args.params + k) cell (c.loop-earlier.invariant other k apart below is)
