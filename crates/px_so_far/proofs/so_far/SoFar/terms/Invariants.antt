use Rattle.px_so_far.proofs.Common.{◌≡◌, map, take, parameters_here, term_of, declared_of, argument_view}
use Rattle.px_so_far.specs.LineVariables.{variables_view}
use Rattle.px_so_far.proofs.so_far.SoFar.terms.Given as goal

abbrev pub invariant-loop-argument : goal.invariant-loop-argument
invariant-loop-argument l = l.terms.items
    ≡ map (λ a. term_of (parameters_here (declared_of l.self)) (variables_view l.variables) l.self.names.objects (argument_view a))
    (take l.argument-index l.arguments)
