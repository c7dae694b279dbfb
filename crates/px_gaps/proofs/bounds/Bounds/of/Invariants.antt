use Rattle.px_gaps.specs.Bounds.{AreBounds}
use Rattle.px_gaps.proofs.bounds.Bounds.of.Given as goal

abbrev pub invariant-loop-height : goal.invariant-loop-height
invariant-loop-height l = AreBounds l.problem l._height l.table.items
