use Rattle.std.proofs.Common.{◌∷◌, [], Bool, List, sym, subst}
use Rattle.px_support.specs.Asking.{task_for}
use Rattle.px_search.specs.Offers.{IsOffered, IsOfferAt}
use Rattle.px_search.specs.declared.step.Step.{Step}
use Rattle.px_search.proofs.CacheLaws.{want_eq, want_eq-decides}
use Rattle.px_search.proofs.OfferLaws.{offered-here}
use Rattle.px_search.proofs.Pairs.{each-found}
use Rattle.px_search.proofs.cache.Cache.offer.Goals as goal

pub returns-in_ok-copy-in-Some-clause-steps : goal.returns-in_ok-copy-in-Some-clause-steps
returns-in_ok-copy-in-Some-clause-steps c =
    let task = task_for c.args.asked.now in
    let cache = c.args.self.now in
    let facts = c.args.current.now.model.atoms in
    let want = c.args.want.now in
    let offer = c.in-Some.offer.now in
    let copy = c.in_ok-copy-in-Some.copy in
    subst (λ (b : Bool). IsOffered task cache.numbers facts (want.atom ∷ []) copy.steps.items b) (sym c.in_ok-copy-in-Some.ensures.is_all)
    (subst (λ (s : List Step). IsOffered task cache.numbers facts (want.atom ∷ []) s offer.is_all) (sym c.in_ok-copy-in-Some.ensures.steps)
    (offered-here task cache.numbers want facts offer c.requires.part
    (each-found want_eq want_eq-decides (IsOfferAt task cache.numbers) cache.wants.entries want offer c.requires.cache.wants
    c.in-Some.ensures.value)))
