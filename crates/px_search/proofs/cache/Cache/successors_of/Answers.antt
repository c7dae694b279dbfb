use Rattle.px_numbers.specs.NumberLaws.{stands-grows}
use Rattle.px_base.proofs.Loops.{ok_map}
use Rattle.px_support.specs.Asking.{task_for}
use Rattle.px_search.specs.Going.{BeginsAt, LimitsAt}
use Rattle.px_search.specs.Cache.{HaveGrown}
use Rattle.px_search.specs.CurrentModels.{IsCurrent}
use Rattle.px_search.proofs.FromLaws.{if_limit}
use Rattle.px_search.proofs.CacheLaws.{answer-grown, on_answer}
use Rattle.px_search.proofs.OfferLaws.{if_some}
use Rattle.px_search.proofs.CurrentLaws.{current_at-grows, current-of}
use Rattle.px_search.proofs.StepLaws.{asked-grows}
use Rattle.px_search.proofs.cache.Cache.successors_of.Goals as goal

pub kept_steps-requires-clause-node : goal.kept_steps-requires-clause-node
kept_steps-requires-clause-node c = (c.requires.node.node, c.requires.node.stands)

pub returns-in-Some-clause-steps : goal.returns-in-Some-clause-steps
returns-in-Some-clause-steps c =
    let kept = c.args.self.now.numbers in
    if_some (BeginsAt (task_for c.args.asked.now) kept kept c.args.key) c.in_ok-kept.kept c.in-Some.successors c.in-Some.is
    c.in_ok-kept.ensures

pub show-requires-clause-model : goal.show-requires-clause-model
show-requires-clause-model c = (c.requires.node.node.model, c.requires.node.stands.model)

pub steps_anew-requires-clause-node : goal.steps_anew-requires-clause-node
steps_anew-requires-clause-node c =
    asked-grows (task_for c.args.asked.now) c.args.self.now.numbers c.show.new.self.numbers c.args.key c.in_ok-show.ensures.cache.keeps
    c.requires.node

pub returns-clause-cache : goal.returns-clause-cache
returns-clause-cache c =
    answer-grown (task_for c.args.asked.now) c.args.self.now c.show.new.self c.steps_anew.new.self c.in_ok-show.ensures.cache
    c.steps_anew.result c.steps_anew.ensures.cache

pub returns-clause-current : goal.returns-clause-current
returns-clause-current c =
    let task = task_for c.args.asked.now in
    let mid = c.show.new.self in
    let new = c.steps_anew.new.self in
    let current = c.show.new.current in
    on_answer (HaveGrown task mid new) (IsCurrent task new.numbers current) c.steps_anew.result c.steps_anew.ensures.cache
    (λ grown. current-of task new.numbers c.args.key.model current c.in_ok-show.ensures.number
    (current_at-grows task mid.numbers new.numbers c.args.key.model current grown.keeps c.in_ok-show.ensures.current))

pub returns-clause-steps : goal.returns-clause-steps
returns-clause-steps c =
    let task = task_for c.args.asked.now in
    let old = c.args.self.now.numbers in
    let mid = c.show.new.self.numbers in
    let new = c.steps_anew.new.self.numbers in
    ok_map (BeginsAt task mid new c.args.key) (BeginsAt task old new c.args.key)
    (λ successors is node stands. is node (stands-grows old mid c.args.key node c.in_ok-show.ensures.cache.keeps stands))
    c.steps_anew.result
    c.steps_anew.ensures.steps

pub returns-clause-limited : goal.returns-clause-limited
returns-clause-limited c =
    let task = task_for c.args.asked.now in
    let old = c.args.self.now.numbers in
    let mid = c.show.new.self.numbers in
    if_limit (LimitsAt task mid c.args.key) (LimitsAt task old c.args.key) c.steps_anew.result c.steps_anew.ensures.limited
    (λ limit is node stands. is node (stands-grows old mid c.args.key node c.in_ok-show.ensures.cache.keeps stands))
