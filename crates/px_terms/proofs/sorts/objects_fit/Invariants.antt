use Rattle.std.proofs.Common.{ℕ, ◌<◌}
use Rattle.std.specs.Prelude.{slice_index}
use Rattle.px_terms.specs.Sorts.{FitsSort}
use Rattle.px_terms.proofs.sorts.objects_fit.Given as goal

abbrev pub invariant-loop-place : goal.invariant-loop-place
invariant-loop-place l = (k : ℕ) → k < l.place → FitsSort l.sorts (slice_index l.wanted k) (slice_index l.objects k)
