use Rattle.std.proofs.Common.{◌∙◌, ◌∷◌, [], List, sym, subst}
use Rattle.px_support.specs.Asking.{task_for}
use Rattle.px_search.specs.Offers.{IsOffered, IsOfferAt}
use Rattle.px_search.specs.declared.cache.Offer.{Offer}
use Rattle.px_search.specs.declared.step.Step.{Step}
use Rattle.px_search.proofs.CacheLaws.{part-grows, want_eq, want_eq-decides}
use Rattle.px_search.proofs.OfferLaws.{offer-at}
use Rattle.px_search.proofs.Pairs.{each-more}
use Rattle.px_search.proofs.cache.Cache.offer_anew.Goals as goal

pub returns-in-Ok-insert-clause-cache : goal.returns-in-Ok-insert-clause-cache
returns-in-Ok-insert-clause-cache c =
    let task = task_for c.args.asked.now in
    let old = c.args.self.now in
    let new = c.offered_anew.new.self in
    let want = c.args.want.now in
    let facts = c.args.current.now.model.atoms in
    let is_all = c.in-Ok.successors.is_all in
    let before = c.in-Ok.ensures.cache in
    let offer : Offer = record { steps = c.in_ok-steps.steps; is_all = is_all } in
    let here : IsOfferAt task new.numbers want offer =
    offer-at task new.numbers want facts offer c.relevance_over_models.ensures c.requires.asked.valid c.requires.asked.tables
    (part-grows task old.numbers new.numbers before.keeps want.part facts c.requires.part)
    (subst (λ (s : List Step). IsOffered task new.numbers facts (want.atom ∷ []) s is_all)
    (sym (c.in_ok-steps.ensures ∙ c.as_slice.ensures.value)) c.in-Ok.ensures.steps) in
    record {
      keeps = before.keeps;
      right = record {
        tops = before.right.tops;
        wants =
            each-more want_eq want_eq-decides (IsOfferAt task new.numbers) new.wants.entries c.insert.new.self.entries want offer
            before.right.wants here c.in-Ok-insert.ensures.entries;
        results = before.right.results;
        altered = before.right.altered;
        never_limited = before.right.never_limited;
      };
    }
