use Rattle.px_so_far.proofs.Common.{◌≡◌, map, take, atom_of, declared_of, signed_view}
use Rattle.px_so_far.specs.LineVariables.{variables_view}
use Rattle.px_so_far.proofs.so_far.SoFar.atoms.Given as goal

abbrev pub invariant-loop-atom : goal.invariant-loop-atom
invariant-loop-atom l = l.numbered.items
    ≡ map (λ x. atom_of (declared_of l.self) (variables_view l.variables) (signed_view x)) (take l.atom-index l.atoms)
