use Rattle.px_support.proofs.GraftSteps.{NotBefore}
use Rattle.px_support.proofs.grafts.place_of.Given as goal

abbrev pub invariant-loop-place : goal.invariant-loop-place
invariant-loop-place l = NotBefore l.formula l.atom l.place
