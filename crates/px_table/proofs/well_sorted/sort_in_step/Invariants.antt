use Rattle.std.proofs.Common.{◌≡◌, drop}
use Rattle.px_table.specs.WellSorted.{first_sort, paired}
use Rattle.px_table.proofs.well_sorted.sort_in_step.Given as goal

-- the sort is that of the places that are left
abbrev pub invariant-loop-place : goal.invariant-loop-place
invariant-loop-place l = first_sort (paired (drop l.place l.wanted) (drop l.place l.args)) l.parameter ≡ first_sort (paired l.wanted l.args)
    l.parameter
