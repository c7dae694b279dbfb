use Rattle.px_match.proofs.Sides.{IsSideFrom}
use Rattle.px_match.proofs.seeking.side_of.Given as goal

abbrev pub invariant-loop-at : goal.invariant-loop-at
invariant-loop-at l = IsSideFrom l.work l.place l.limit l.terms l.found l.at
