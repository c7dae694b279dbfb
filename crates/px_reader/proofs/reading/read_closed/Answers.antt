use Rattle.px_reader.proofs.Common.{refl, open_block_view, sym, subst, length, nothing_declared, lines_in, LinesFail, stage_view, declared_of}
use Rattle.px_reader.proofs.Outcomes.{left-open, err-carried}
use Rattle.px_reader.proofs.reading.read_closed.Goals as goal

pub returns-in_err-read_each-clause-fails : goal.returns-in_err-read_each-clause-fails
returns-in_err-read_each-clause-fails c =
    err-carried c.from_residual.result (LinesFail (stage_view c.args.stage.now) (lines_in c.args.text.now))
    c.in_err-read_each.field-0.0 c.from_residual.ensures.1 c.in_err-read_each.ensures.fails

pub returns-in-Some-clause-fails : goal.returns-in-Some-clause-fails
returns-in-Some-clause-fails c =
    let block = open_block_view (length c.read_each.new.so_far.schemas.items) c.in-Some.block in
    let fails = left-open (stage_view c.args.stage.now) 1 nothing_declared (lines_in c.args.text.now)
    (declared_of c.read_each.new.so_far) block c.in_ok-read_each.ensures.passes (rw c.in-Some.is refl) in
    subst (LinesFail (stage_view c.args.stage.now) (lines_in c.args.text.now)) (sym c.refused.ensures) fails
