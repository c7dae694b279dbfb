use Rattle.std.proofs.Common.{◌-◌, drop, length}
use Rattle.px_gaps.specs.Bounds.{IsBoundBefore}
use Rattle.px_gaps.proofs.BoundLoops.{preds_of}
use Rattle.px_gaps.proofs.bounds.bound_before.Given as goal

abbrev pub invariant-loop-passed : goal.invariant-loop-passed
invariant-loop-passed l = IsBoundBefore l.table (preds_of (drop (length l.lits - l.passed) l.lits)) l.fn.rest l.bound
