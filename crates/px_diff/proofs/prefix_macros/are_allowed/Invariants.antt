use Rattle.std.proofs.Common.{ℕ, ◌<◌, slice_index}
use Rattle.px_table.specs.Prefixes.{IsAllowedNumber}
use Rattle.px_diff.proofs.prefix_macros.are_allowed.Given as goal

abbrev pub invariant-loop-parameter : goal.invariant-loop-parameter
invariant-loop-parameter l =
    (v : ℕ) → v < l.parameter
    → IsAllowedNumber l.prefix.request.problem.now l.prefix.table.now l.prefix.count v (slice_index l.sigma v)
