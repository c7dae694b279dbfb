use Rattle.std.proofs.Common.{◌≡◌, ◌+◌, length, take, ap, arith}
use Rattle.px_planex.specs.Turns.{Recorded}
use Rattle.px_turns.specs.Turning.{edits_in}
use Rattle.px_turns.proofs.RunPlaces.{edits_in-next}
use Rattle.px_turns.proofs.running.count_edits.Goals as goal

pub loop-one-preserved : goal.loop-one-preserved
loop-one-preserved g c =
    let recorded = c.args.recorded.now in
    let i = c.loop-one.one-index in
    let edits = ap (λ (r : Recorded g.row.E.Denot). length r.edits) c.one.view_is in
    let next = edits_in-next recorded i c.one-item.result c.loop-one-test.true c.one-item.is in
    let so_far : c.loop-one.count ≡ edits_in (take i recorded) = c.loop-one.invariant in
    let counted : c.in_ok-count.count ≡ edits_in (take (i + 1) recorded) =
    grind (
      arith,
      next,
      edits,
      so_far,
      c.len.ensures,
      c.in_ok-count.ensures,
      c.in_ok-count.was,
      c.branch-count.ensures,
      c.checked_add.ensures,
    ) in
    counted
