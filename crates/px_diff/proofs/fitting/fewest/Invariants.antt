use Rattle.std.proofs.Common.{◌<◌, length}
use Rattle.px_diff.proofs.fitting.fewest.Given as goal

abbrev pub invariant-loop-place : goal.invariant-loop-place
invariant-loop-place l = l.least < length l.numbers
