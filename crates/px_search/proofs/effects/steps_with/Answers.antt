use Rattle.std.proofs.Common.{◌≡◌, ◌+◌, ◌++◌, ◌∷◌, [], List, map, take, sym, ap, ◌∙◌}
use Rattle.std.proofs.lemmas.List.{map-append, take_more}
use Rattle.px_terms.specs.declared.instance.OpInst.{OpInst}
use Rattle.px_table.specs.Kernels.{instance_under}
use Rattle.px_search.proofs.effects.steps_with.Goals as goal

pub loop-step-preserved : goal.loop-step-preserved
loop-step-preserved c =
    let i = c.loop-step.step-index in
    let step = c.step-item.result in
    let steps = c.args.steps.now in
    let under = instance_under c.args.sigma.now in
    let taken : take (i + 1) steps ≡ take i steps ++ step ∷ [] =
    take_more steps i step c.loop-step-test.true ∙ ap (λ (x : OpInst). take i steps ++ x ∷ []) (sym c.step-item.is) in
    c.in_ok-push.ensures.items ∙ ap (λ (l : List OpInst). l ++ c.instance_with-inst.result ∷ []) c.loop-step.invariant
    ∙ ap (λ (x : OpInst). map under (take i steps) ++ x ∷ []) c.instance_with-inst.ensures
    ∙ sym (map-append under (take i steps) (step ∷ [])) ∙ ap (map under) (sym taken)
