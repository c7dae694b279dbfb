use Rattle.std.proofs.Common.{◌<◌, length, map, arith}
use Rattle.px_terms.specs.declared.term.Term.TheVariants.{Obj}
use Rattle.px_terms.specs.Language.{substitute}
use Rattle.px_terms.proofs.WriteLemmas.{write_next}
use Rattle.px_table.proofs.under_objects.write_under.Goals as goal

pub loop-i-preserved : goal.loop-i-preserved
loop-i-preserved c =
    let room : c.loop-i.i < length c.args.into.now = omega arith in
    rw (c.loop-i.invariant, c.term_under.ensures)
    (write_next (substitute (map Obj c.args.sigma.now)) c.args.terms.now c.args.into.now c.loop-i.i (Obj 0) (Obj 0) c.loop-i-test.true room)
