use Rattle.px_so_far.proofs.Common.{◌≡◌, map, take, binding_of, declared_of, binding_view}
use Rattle.px_so_far.proofs.so_far.SoFar.bindings.Given as goal

abbrev pub invariant-loop-binding : goal.invariant-loop-binding
invariant-loop-binding l = l.numbered.items
    ≡ map (λ b. binding_of (declared_of l.self) (binding_view b)) (take l.binding-index l.bindings)
