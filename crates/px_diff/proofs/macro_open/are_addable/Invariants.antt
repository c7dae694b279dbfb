use Rattle.px_terms.specs.Operators.{IsAddable}
use Rattle.px_base.proofs.Loops.{AllBefore}
use Rattle.px_diff.proofs.macro_open.are_addable.Given as goal

abbrev pub invariant-loop-atom : goal.invariant-loop-atom
invariant-loop-atom l = AllBefore (IsAddable l.problem) l.atoms l.atom-index
