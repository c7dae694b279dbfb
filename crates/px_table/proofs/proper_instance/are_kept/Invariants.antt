use Rattle.std.proofs.Common.{ℕ, ◌<◌, get_or}
use Rattle.px_table.specs.declared.mark.Mark.{Mark}
use Rattle.px_table.specs.Kernels.{mark_under, steps_under}
use Rattle.px_table.specs.Marks.{IsKept}
use Rattle.px_table.proofs.proper_instance.are_kept.Given as goal

abbrev pub invariant-loop-mark : goal.invariant-loop-mark
invariant-loop-mark l =
    (k : ℕ) (d : Mark) → k < l.mark-index
    → IsKept l.problem (steps_under l.table l.sigma) l.first (mark_under l.sigma (get_or l.table.marks k d))
