use Rattle.std.proofs.Common.{ℕ, ◌<◌, slice_index}
use Rattle.px_table.specs.Prefixes.{IsAllowedNumber}
use Rattle.px_table.proofs.prefix.are_allowed.Given as goal

abbrev pub invariant-loop-parameter : goal.invariant-loop-parameter
invariant-loop-parameter l = (v : ℕ) → v < l.parameter → IsAllowedNumber l.problem l.table l.prefix v (slice_index l.sigma v)
