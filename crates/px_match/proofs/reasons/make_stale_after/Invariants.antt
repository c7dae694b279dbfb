use Rattle.std.proofs.Common.{ℕ, ◌<◌}
use Rattle.px_match.specs.Reasons.{Grown, IsReason, IsStale}
use Rattle.px_match.proofs.reasons.make_stale_after.Given as goal

abbrev pub invariant-loop-later : goal.invariant-loop-later
invariant-loop-later l =
    Grown l.initial.cells l.cells × ((k : ℕ) → l.place < k → k < l.later → IsReason l.initial.cells l.params k l.place
    → IsStale l.cells l.params k)
