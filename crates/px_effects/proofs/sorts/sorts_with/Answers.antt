use Rattle.px_effects.proofs.Common.{◌<◌, length, map, ap, ◌∙◌, string_bytes, text_of}
use Rattle.px_effects.proofs.Sorting.{next-sort, text-at}
use Rattle.px_effects.proofs.sorts.sorts_with.Goals as goal

pub loop-place-preserved : goal.loop-place-preserved
loop-place-preserved c =
    let below : c.loop-place.place < length c.args.parameters.now = c.loop-place-test.true in
    c.in_ok-push.ensures.items ∙ next-sort c.args.sort (map text_of c.args.names.now) (map string_bytes c.args.parameters.now)
    c.args.old.now c.loop-place.sorts.items c.loop-place.place c.sort_after.result c.as_str.result.now c.sort_at.result
    c.loop-place.invariant c.sort_after.ensures c.sort_at.ensures (c.as_str.ensures.value ∙ ap string_bytes c.index-parameters-place.is
    ∙ text-at string_bytes c.args.parameters.now c.loop-place.place _ below)
