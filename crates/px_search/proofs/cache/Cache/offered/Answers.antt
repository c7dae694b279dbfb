use Rattle.px_support.specs.Asking.{task_for}
use Rattle.px_search.specs.Offers.{IsOfferedWhole}
use Rattle.px_search.proofs.CacheLaws.{answer-grown}
use Rattle.px_search.proofs.OfferLaws.{if_some, offered-whole}
use Rattle.px_search.proofs.cache.Cache.offered.Goals as goal

pub returns-in-None-clause-cache : goal.returns-in-None-clause-cache
returns-in-None-clause-cache c =
    answer-grown (task_for c.args.asked.now) c.args.self.now c.offered_each.new.self c.offered_anew.new.self c.in-Ok.ensures.cache
    c.offered_anew.result c.offered_anew.ensures.cache

pub returns-in-Some-clause-steps : goal.returns-in-Some-clause-steps
returns-in-Some-clause-steps c =
    let task = task_for c.args.asked.now in
    let facts = c.args.current.now.model.atoms in
    let gaps = c.args.gaps.now in
    let kept = c.offered_each.new.self.numbers in
    (offered-whole task facts gaps kept c.in-Some.steps.items).1
    (if_some (λ steps. IsOfferedWhole task kept facts gaps steps.items) c.in-Ok.each c.in-Some.steps c.in-Some.is c.in-Ok.ensures.whole)
