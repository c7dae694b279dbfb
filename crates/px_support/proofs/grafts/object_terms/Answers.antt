use Rattle.std.proofs.Common.{List, [], ◌++◌, ◌∷◌, map, sym, ap, ◌∙◌}
use Rattle.std.proofs.lemmas.List.{take_all}
use Rattle.px_terms.specs.declared.term.Term.{Term}
use Rattle.px_terms.specs.declared.term.Term.TheVariants.{Obj}
use Rattle.px_support.proofs.GraftSteps.{mapped-got}
use Rattle.px_support.proofs.grafts.object_terms.Goals as goal

pub loop-place-preserved : goal.loop-place-preserved
loop-place-preserved c =
    c.in_ok-push.ensures.ok ∙ ap (λ (ts : List Term). ts ++ Obj c.number_at-number.result ∷ []) c.loop-place.invariant
    ∙ sym (mapped-got Obj c.args.sigma.now c.loop-place.place c.number_at-number.result c.number_at-number.ensures)

pub returns : goal.returns
returns c = c.loop-place.invariant ∙ ap (map Obj) (take_all c.loop-place.place c.args.sigma.now c.loop-place-test.false)
