use Rattle.std.proofs.Common.{◌≡◌, map, take}
use Rattle.px_terms.specs.Substitution.{substitute_atom}
use Rattle.px_search.proofs.alterations.atoms_with.Given as goal

abbrev pub invariant-loop-atom : goal.invariant-loop-atom
invariant-loop-atom l = l.made.items ≡ map (substitute_atom l.inst.args) (take l.atom-index l.atoms)
