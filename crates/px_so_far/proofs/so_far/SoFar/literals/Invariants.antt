use Rattle.px_so_far.proofs.Common.{◌≡◌, map, take, literal_of, declared_of, signed_view}
use Rattle.px_so_far.specs.LineVariables.{variables_view}
use Rattle.px_so_far.proofs.so_far.SoFar.literals.Given as goal

abbrev pub invariant-loop-atom : goal.invariant-loop-atom
invariant-loop-atom l = l.literals.items
    ≡ map (λ x. literal_of (declared_of l.self) (variables_view l.variables) (signed_view x)) (take l.atom-index l.atoms)
