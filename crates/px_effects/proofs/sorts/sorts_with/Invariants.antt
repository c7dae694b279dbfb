-- What the loop of `sorts_with` in src/sorts.rt keeps true.
use Rattle.px_effects.proofs.Common.{◌≡◌, map, string_bytes, text_of}
use Rattle.px_effects.proofs.Sorting.{sort_of}
use Rattle.std.specs.List.{range_with_len}
use Rattle.px_effects.proofs.sorts.sorts_with.Given as goal

abbrev pub invariant-loop-place : goal.invariant-loop-place
invariant-loop-place l =
    l.sorts.items ≡ map (sort_of l.sort (map text_of l.names) (map string_bytes l.parameters) l.old) (range_with_len 0 l.place)
