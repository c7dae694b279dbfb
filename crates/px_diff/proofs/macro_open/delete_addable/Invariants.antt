use Rattle.px_diff.specs.MacroOpen.{DeletesAddable}
use Rattle.px_base.proofs.Loops.{AllBefore}
use Rattle.px_diff.proofs.macro_open.delete_addable.Given as goal

abbrev pub invariant-loop-step : goal.invariant-loop-step
invariant-loop-step l = AllBefore (DeletesAddable l.problem) l.steps l.step-index
