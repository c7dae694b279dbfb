use Rattle.std.proofs.Common.{ℕ, ◌<◌}
use Rattle.px_match.specs.Reasons.{IsStale}
use Rattle.px_match.proofs.reasons.make_all_stale.Given as goal

abbrev pub invariant-loop-place : goal.invariant-loop-place
invariant-loop-place l = (k : ℕ) → k < l.place → IsStale l.cells l.params k
