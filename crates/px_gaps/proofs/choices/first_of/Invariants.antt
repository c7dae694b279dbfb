use Rattle.px_gaps.specs.Choices.{IsClosed}
use Rattle.px_base.proofs.Loops.{AllBefore}
use Rattle.px_gaps.proofs.choices.first_of.Given as goal

abbrev pub invariant-loop-target : goal.invariant-loop-target
invariant-loop-target l = AllBefore (IsClosed l.terms) l.targets l.target-index
