use Rattle.px_entries.specs.Plain.{IsSettled}
use Rattle.px_base.proofs.Loops.{AllBefore}
use Rattle.px_entries.proofs.plain.are_settled.Given as goal

abbrev pub invariant-loop-atom : goal.invariant-loop-atom
invariant-loop-atom l = AllBefore (IsSettled l.problem l.model.atoms) l.formula l.atom-index
