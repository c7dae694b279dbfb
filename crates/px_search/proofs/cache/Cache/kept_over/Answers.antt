use Rattle.std.proofs.Common.{◌∷◌, ◌∙◌, [], List, sym, subst}
use Rattle.px_table.specs.declared.entry.Entry.{Entry}
use Rattle.px_support.specs.Asking.{task_for}
use Rattle.px_search.specs.Cache.{IsStepsAt}
use Rattle.px_search.specs.Going.{AreFirstSuccessors}
use Rattle.px_search.specs.Steps.{AreStepsOf}
use Rattle.px_search.specs.declared.cache.Offer.{Offer}
use Rattle.px_search.specs.declared.step.Step.{Step}
use Rattle.px_search.proofs.FromLaws.{successors-over, first-top}
use Rattle.px_search.proofs.CacheLaws.{keeps_all_same, place_eq, place_eq-decides}
use Rattle.px_search.proofs.Pairs.{each-more}
use Rattle.px_search.proofs.cache.Cache.kept_over.Goals as goal

pub struck-requires : goal.struck-requires
struck-requires c = (c.requires.here.top.rest, c.requires.here.top.below_at)

pub returns-clause-cache : goal.returns-clause-cache
returns-clause-cache c =
    let task = task_for c.args.asked.now in
    let here = c.args.here.now in
    let old = c.args.self.now in
    let model = here.current.now.model.atoms in
    let t = c.requires.here.top in
    let right = c.requires.cache in
    let successors : AreFirstSuccessors task old.numbers (record { model = model; stack = t.entry ∷ [] }) c.args.alone.items c.args.is_all =
    subst (λ (s : List Entry). AreFirstSuccessors task old.numbers (record { model = model; stack = s }) c.args.alone.items c.args.is_all)
    (first-top task t) c.requires.alone in
    let offer : Offer = record { steps = c.from_vec-kept.result; is_all = c.args.is_all } in
    let kept : IsStepsAt task old.numbers here.place offer =
    subst (λ (s : List Step). IsStepsAt task old.numbers here.place (record { steps = s; is_all = c.args.is_all }))
    (sym c.from_vec-kept.ensures) (model, t.entry, t.model_at, t.entry_at, successors) in
    record {
      keeps = keeps_all_same old.numbers;
      right = record {
        tops =
            each-more place_eq place_eq-decides (IsStepsAt task old.numbers) old.tops.entries c.insert.new.self.entries here.place offer
            right.tops kept c.in_ok-insert.ensures.entries;
        wants = right.wants;
        results = right.results;
        altered = right.altered;
        never_limited = right.never_limited;
      };
    }

pub returns-clause-steps : goal.returns-clause-steps
returns-clause-steps c =
    let task = task_for c.args.asked.now in
    let here = c.args.here.now in
    let kept = c.args.self.now.numbers in
    let model = here.current.now.model.atoms in
    let t = c.requires.here.top in
    let successors : AreFirstSuccessors task kept (record { model = model; stack = t.entry ∷ [] }) c.args.alone.items c.args.is_all =
    subst (λ (s : List Entry). AreFirstSuccessors task kept (record { model = model; stack = s }) c.args.alone.items c.args.is_all)
    (first-top task t) c.requires.alone in
    successors-over task t c.args.alone.items c.in_ok-steps.steps.items c.args.is_all
    successors
    (λ entries moves stands are. c.in_ok-steps.ensures entries moves stands
    (subst (λ (s : List Step). AreStepsOf kept s moves) (sym (c.as_slice.ensures ∙ c.from_vec-kept.ensures)) are))
