use Rattle.std.proofs.Common.{ℕ, List}
use Rattle.px_table.proofs.KeptSteps.{KeptBelow}
use Rattle.px_diff.proofs.prefix_macros.stays.Given as goal

abbrev pub invariant-loop-before : goal.invariant-loop-before
invariant-loop-before l = (sigma : List ℕ) → KeptBelow l.problem l.steps sigma 1 l.mark l.before
