use Rattle.std.proofs.Common.{◌≡◌, map}
use Rattle.std.specs.List.{range_with_len}
use Rattle.px_table.specs.WellSorted.{first_sort, sort_places}
use Rattle.px_table.proofs.well_sorted.sorts_by_places.Given as goal

abbrev pub invariant-loop-parameter : goal.invariant-loop-parameter
invariant-loop-parameter l = l.sorts.items ≡ map (first_sort (sort_places l.problem l.steps)) (range_with_len 0 l.parameter)
