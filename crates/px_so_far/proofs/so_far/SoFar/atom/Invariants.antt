use Rattle.px_so_far.proofs.Common.{◌≡◌, map, take, length, parameters_here, term_of, declared_of, argument_view}
use Rattle.px_so_far.specs.LineVariables.{variables_view}
use Rattle.px_so_far.proofs.so_far.SoFar.atom.Given as goal

abbrev pub invariant-loop-index : goal.invariant-loop-index
invariant-loop-index l = (take l.index l.terms
    ≡ map (λ a. term_of (parameters_here (declared_of l.self)) (variables_view l.variables) l.self.names.objects (argument_view a))
    (take l.index l.atom.arguments.items)) × (length l.terms ≡ 6)
