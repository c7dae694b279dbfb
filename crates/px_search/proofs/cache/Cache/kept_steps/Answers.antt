use Rattle.std.proofs.Common.{List, subst, sym}
use Rattle.px_support.specs.Asking.{task_for}
use Rattle.px_search.specs.Cache.{IsStepsAt}
use Rattle.px_search.specs.Steps.{AreStepsOf}
use Rattle.px_search.specs.declared.cache.EntryPlace.{EntryPlace}
use Rattle.px_search.specs.declared.step.Step.{Step}
use Rattle.px_search.proofs.FromLaws.{below_stands, successors-found}
use Rattle.px_search.proofs.CacheLaws.{place_eq, place_eq-decides}
use Rattle.px_search.proofs.Pairs.{each-found}
use Rattle.px_search.proofs.cache.Cache.kept_steps.Goals as goal

pub struck-requires : goal.struck-requires
struck-requires c =
    below_stands c.args.self.now.numbers c.requires.node.0.stack c.in-Some.frame
    (c.in-Some.ensures.top c.requires.node.0.stack c.requires.node.1.stack)

pub returns : goal.returns
returns c =
    let task = task_for c.args.asked.now in
    let cache = c.args.self.now in
    let kept = cache.numbers in
    let frame = c.in-Some.frame in
    let place : EntryPlace = record { model = c.args.key.model; entry = frame.entry } in
    let offer = c.in-Some-get.offer.now in
    let n = c.requires.node in
    successors-found task kept c.args.key frame offer c.in_ok-steps.steps.items
    (each-found place_eq place_eq-decides (IsStepsAt task kept) cache.tops.entries place offer c.requires.cache.tops
    c.in-Some-get.ensures.value)
    (λ entries moves stands are. c.in_ok-steps.ensures entries moves stands
    (subst (λ (s : List Step). AreStepsOf kept s moves) (sym c.as_slice.ensures) are)) n.0 n.1
    (c.in-Some.ensures.top n.0.stack n.1.stack)
