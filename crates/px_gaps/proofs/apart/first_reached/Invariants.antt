use Rattle.std.specs.Prelude.{Any}
use Rattle.px_terms.specs.declared.atom.Atom.{Atom}
use Rattle.px_gaps.specs.Apart.{StandsIn}
use Rattle.px_base.proofs.Loops.{AllBefore}
use Rattle.px_gaps.proofs.apart.first_reached.Given as goal

abbrev pub invariant-loop-place : goal.invariant-loop-place
invariant-loop-place l = AllBefore (λ (atom : Atom). ¬ Any (λ v. StandsIn l.terms v atom) l.reached) l.atoms l.place
