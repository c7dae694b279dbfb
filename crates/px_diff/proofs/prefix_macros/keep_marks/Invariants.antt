use Rattle.std.proofs.Common.{ℕ, ◌≤◌, List}
use Rattle.px_base.proofs.Loops.{AllBefore}
use Rattle.px_table.specs.declared.mark.Mark.{Mark}
use Rattle.px_table.specs.Kernels.{mark_under, steps_under}
use Rattle.px_table.specs.Marks.{IsKept}
use Rattle.px_diff.proofs.prefix_macros.keep_marks.Given as goal

abbrev pub invariant-loop-mark : goal.invariant-loop-mark
invariant-loop-mark l =
    (sigma : List ℕ) → AllBefore (λ (mark : Mark). mark.row ≤ l.count
    → IsKept l.problem (steps_under l.table sigma) 1 (mark_under sigma mark)) l.table.marks l.mark-index
