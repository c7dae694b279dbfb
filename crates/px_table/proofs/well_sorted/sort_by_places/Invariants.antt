use Rattle.std.proofs.Common.{◌≡◌, drop}
use Rattle.px_table.specs.WellSorted.{first_sort, sort_places}
use Rattle.px_table.proofs.well_sorted.sort_by_places.Given as goal

-- the sort is that of the steps that are left
abbrev pub invariant-loop-inst : goal.invariant-loop-inst
invariant-loop-inst l =
    first_sort (sort_places l.problem (drop l.inst-index l.steps)) l.parameter ≡ first_sort (sort_places l.problem l.steps) l.parameter
