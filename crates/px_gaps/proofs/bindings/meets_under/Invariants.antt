use Rattle.std.specs.Prelude.{Contains}
use Rattle.px_terms.specs.Substitution.{substitute_atom}
use Rattle.px_base.proofs.Loops.{AllBefore}
use Rattle.px_gaps.proofs.bindings.meets_under.Given as goal

abbrev pub invariant-loop-atom : goal.invariant-loop-atom
invariant-loop-atom l = AllBefore (λ atom. ¬ Contains l.set.atoms (substitute_atom l.terms atom)) l.atoms l.atom-index
