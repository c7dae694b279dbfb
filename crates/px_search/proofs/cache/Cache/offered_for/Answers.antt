use Rattle.std.proofs.Common.{◌∷◌, [], Bool, subst}
use Rattle.px_base.proofs.Loops.{not_false}
use Rattle.px_support.specs.Asking.{task_for}
use Rattle.px_search.specs.Offers.{IsOffered}
use Rattle.px_search.proofs.OfferLaws.{offered-whole}
use Rattle.px_search.proofs.cache.Cache.offered_for.Goals as goal

pub returns-clause-whole : goal.returns-clause-whole
returns-clause-whole c =
    let task = task_for c.args.asked.now in
    let facts = c.args.current.now.model.atoms in
    let kept = c.offer.new.self.numbers in
    let steps = c.in-Ok.successors.steps.items in
    (offered-whole task facts (c.args.atom ∷ []) kept steps).0
    (subst (λ (b : Bool). IsOffered task kept facts (c.args.atom ∷ []) steps b)
    (not_false c.in-Ok.successors.is_all c.if-not-successors.false) c.in-Ok.ensures.steps)
