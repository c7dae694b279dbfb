use Rattle.px_gaps.specs.Bounds.{AreBounds}
use Rattle.px_gaps.proofs.bounds.no_proofs.Given as goal

abbrev pub invariant-loop-pred : goal.invariant-loop-pred
invariant-loop-pred l = AreBounds l.problem 0 l.table.items
