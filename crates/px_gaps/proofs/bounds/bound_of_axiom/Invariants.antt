use Rattle.std.proofs.Common.{◌≡◌, ◌<◌}
use Rattle.px_gaps.specs.Bounds.{IsUseBoundBy}
use Rattle.px_gaps.proofs.bounds.bound_of_axiom.Given as goal

abbrev pub invariant-loop-place : goal.invariant-loop-place
invariant-loop-place l = IsUseBoundBy l.problem l.table l.pred (λ n p. (n ≡ l.number) × (p < l.place)) l.bound
