use Rattle.px_terms.specs.Instances.{IsGround}
use Rattle.px_terms.specs.Substitution.{substitute_atom}
use Rattle.px_terms.specs.declared.atom.Atom.{Atom}
use Rattle.px_base.proofs.Loops.{AllBefore}
use Rattle.px_gaps.proofs.bindings.first_open.Given as goal

abbrev pub invariant-loop-place : goal.invariant-loop-place
invariant-loop-place l = AllBefore (λ (atom : Atom). IsGround (substitute_atom l.terms atom)) l.atoms l.place
