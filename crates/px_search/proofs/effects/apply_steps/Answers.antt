use Rattle.std.proofs.Common.{◌≡◌, ◌+◌, ◌++◌, ◌∷◌, [], List, take, sym, ap, ◌∙◌, subst}
use Rattle.std.proofs.lemmas.List.{take_more}
use Rattle.px_terms.specs.declared.instance.OpInst.{OpInst}
use Rattle.px_terms.specs.Operators.{results_of}
use Rattle.px_search.proofs.EffectLaws.{applied-more}
use Rattle.px_search.proofs.effects.apply_steps.Goals as goal

pub loop-step-preserved : goal.loop-step-preserved
loop-step-preserved c =
    let i = c.loop-step.step-index in
    let step = c.step-item.result in
    let steps = c.args.steps.now in
    let taken : take (i + 1) steps ≡ take i steps ++ step ∷ [] =
    take_more steps i step c.loop-step-test.true ∙ ap (λ (x : OpInst). take i steps ++ x ∷ []) (sym c.step-item.is) in
    subst (λ (l : List OpInst). c.apply_to.new.model.atoms ≡ results_of c.args.problem.now c.args.model.now.atoms l) (sym taken)
    (applied-more c.args.problem.now c.args.model.now.atoms c.loop-step.model.atoms c.apply_to.new.model.atoms
    (take i steps) step c.loop-step.invariant c.in_ok-apply_to.ensures.ok)
