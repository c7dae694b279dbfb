use Rattle.px_diff.specs.MacroOpen.{IsSettledMark}
use Rattle.px_base.proofs.Loops.{AllBefore}
use Rattle.px_diff.proofs.macro_open.are_settled_marks.Given as goal

abbrev pub invariant-loop-mark : goal.invariant-loop-mark
invariant-loop-mark l =
    AllBefore (IsSettledMark l.prefix.request.problem.now l.prefix.request.model.now.atoms l.prefix.count l.sigma) l.marks l.mark-index
