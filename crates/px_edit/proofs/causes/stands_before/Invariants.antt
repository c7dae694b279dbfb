use Rattle.std.proofs.Common.{◌<◌, ◌≡◌, ℕ}
use Rattle.std.specs.Prelude.{slice_index_or}
use Rattle.px_edit.proofs.causes.stands_before.Given as goal

abbrev pub invariant-loop-earlier : goal.invariant-loop-earlier
invariant-loop-earlier l = (k : ℕ) → k < l.earlier → ¬ (slice_index_or l.wanted k (0, 0) ≡ slice_index_or l.wanted l.place (0, 0))
