use Rattle.std.proofs.Common.{◌≡◌, ◌≤◌, length, take}
use Rattle.px_unify.proofs.bind.Bind.undo_to.Given as goal

abbrev pub invariant-loop-mark : goal.invariant-loop-mark
invariant-loop-mark l = record {
  above : l.mark-inside.0 ≤ length l.self;
  within : length l.self ≤ length l.fn.self;
  prefix : l.self ≡ take (length l.self) l.fn.self;
}

abbrev pub decreases-loop-mark : goal.decreases-loop-mark
decreases-loop-mark l = length l.self
