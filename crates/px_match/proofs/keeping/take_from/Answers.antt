use Rattle.std.specs.Prelude.{◌<◌, length}
use Rattle.std.proofs.Common.{◌∙◌, arith}
use Rattle.std.proofs.lemmas.List.{length-set}
use Rattle.px_match.specs.Keeping.{IsTakenOut}
use Rattle.px_match.proofs.Each.{set_after, set_before, set_here}
use Rattle.px_match.proofs.keeping.take_from.Goals as goal

pub loop-at-preserved : goal.loop-at-preserved
loop-at-preserved c =
    let marks = c.args.marks.now in
    let lists = c.loop-at.lists in
    let at = c.loop-at.at in
    let one = c.take_one.new.list in
    let here : at < length lists = omega (arith, c.loop-at-test.true, c.loop-at.invariant.0, c.requires.same) in (
      length-set lists at one ∙ c.loop-at.invariant.0,
      set_before (λ mark old new. IsTakenOut mark.atom c.args.atom.now old new) marks c.args.lists.now lists at one here
          c.loop-at.invariant.1
          (set_here (λ mark old new. IsTakenOut mark.atom c.args.atom.now old new) marks c.args.lists.now lists at one here
          c.index-marks-at.result c.index-lists-at.result c.loop-at-test.true
          c.index-marks-at.is c.loop-at.invariant.2 c.take_one.ensures),
      set_after (λ mark old new. IsTakenOut mark.atom c.args.atom.now old new) marks c.args.lists.now lists at one here
          c.loop-at.invariant.2,
    )
