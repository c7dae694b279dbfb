use Rattle.std.proofs.Common.{◌≡◌, map, take}
use Rattle.px_terms.specs.Substitution.{substitute_atom}
use Rattle.px_prover.proofs.gathering.atoms_under.Given as goal

abbrev pub invariant-loop-atom : goal.invariant-loop-atom
invariant-loop-atom l = l.made.items ≡ map (substitute_atom l.terms) (take l.atom-index l.atoms)
