use Rattle.px_terms.specs.declared.atom.Atom.{Atom}
use Rattle.px_terms.specs.Operators.{IsAdded}
use Rattle.px_base.proofs.Loops.{AllBefore}
use Rattle.px_entries.proofs.macro_steps.add_wanted.Given as goal

abbrev pub invariant-loop-atom : goal.invariant-loop-atom
invariant-loop-atom l = AllBefore (λ (atom : Atom). ¬ IsAdded l.problem l.steps atom) l.wanted l.atom-index
