use Rattle.std.proofs.Common.{◌≡◌, length}
use Rattle.px_gaps.specs.Bounds.{AreBoundsAbove}
use Rattle.px_gaps.proofs.bounds.next_table.Given as goal

abbrev pub invariant-loop-pred : goal.invariant-loop-pred
invariant-loop-pred l = (length l.next.items ≡ l.pred) × AreBoundsAbove l.problem l.table l.next.items
