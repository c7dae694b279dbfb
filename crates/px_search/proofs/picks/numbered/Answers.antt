use Rattle.std.proofs.Common.{◌≡◌, ◌<◌, ◌++◌, ◌∷◌, [], List, length, map, take, slice_get, Some, sym, ap, ◌∙◌, subst, arith}
use Rattle.std.proofs.lemmas.List.{take_all}
use Rattle.px_table.specs.declared.entry.Entry.{Entry}
use Rattle.px_table.specs.declared.entry.Move.TheVariants.{Push}
use Rattle.px_order.specs.Places.{at_index}
use Rattle.px_search.specs.declared.step.Step.{Step}
use Rattle.px_search.specs.Steps.{AreStepsOf}
use Rattle.px_search.proofs.NodeLemmas.{take_one}
use Rattle.px_search.proofs.StepLaws.{steps-grow}
use Rattle.px_search.proofs.StruckLaws.{keeps_all_both, pushes_more}
use Rattle.px_search.proofs.picks.numbered.Goals as goal

pub loop-place-preserved : goal.loop-place-preserved
loop-place-preserved c =
    let old = c.loop-place.numbers in
    let new = c.entry_number.new.self in
    let items = c.args.entries.now.items in
    let place = c.loop-place.place in
    let one = c.index-entry.result.now in
    let below : place < length items = omega (arith, c.loop-place-test.true, c.len-place-end.ensures, c.args.entries.now.ok.0) in
    let at : slice_get items place ≡ Some one = at_index items place one below ∙ ap Some (sym c.index-entry.ensures) in
    record {
      keeps = keeps_all_both c.args.numbers.now old new c.loop-place.invariant.keeps c.in_ok-number.ensures.keeps;
      steps = subst (λ (l : List Entry). AreStepsOf new c.push.new.self.items (map Push l)) (sym (take_one items place one at))
          (subst (λ (s : List Step). AreStepsOf new s (map Push (take place items ++ one ∷ []))) (sym c.in_ok-push.ensures.items)
          (pushes_more new c.loop-place.steps.items (take place items) c.in_ok-number.number one
          (steps-grow old new c.loop-place.steps.items
          (map Push (take place items)) c.in_ok-number.ensures.keeps c.loop-place.invariant.steps)
          (c.in_ok-number.ensures.entry ∙ ap Some c.in_ok-copy.ensures)));
    }

pub returns-clause-steps : goal.returns-clause-steps
returns-clause-steps c =
    subst (λ (l : List Entry). AreStepsOf c.loop-place.numbers c.loop-place.steps.items (map Push l))
    (take_all c.loop-place.place c.args.entries.now.items
    (omega (arith, c.loop-place-test.false, c.len-place-end.ensures, c.args.entries.now.ok.0))) c.loop-place.invariant.steps
