use Rattle.std.proofs.Common.{◌<◌}
use Rattle.px_gaps.specs.Bounds.{IsUseBoundBy}
use Rattle.px_gaps.proofs.bounds.bound_of_axioms.Given as goal

abbrev pub invariant-loop-number : goal.invariant-loop-number
invariant-loop-number l = IsUseBoundBy l.problem l.table l.pred (λ n p. n < l.number) l.bound
