use Rattle.std.proofs.Common.{◌<◌, ◌∷◌, ◌∙◌, ℕ, sym, subst, arith}
use Rattle.px_order.specs.Places.{place-within-list}
use Rattle.px_ends.proofs.PickCounts.{picks_left}
use Rattle.px_ends.specs.ByValue.{space_of}
use Rattle.px_support.specs.Asking.{task_for}
use Rattle.px_search.specs.Searching.{order_of}
use Rattle.px_search.proofs.GoingLaws.{counted, going-exhausted, going-start}
use Rattle.px_search.proofs.best_first.Explored.walk.Goals as goal

pub expand-requires-clause-picked : goal.expand-requires-clause-picked
expand-requires-clause-picked c =
    let task = task_for c.args.asked.now in
    let e = c.loop-place.self in
    let i = c.loop-place.invariant.going in
    let b = i.2 in
    let count = counted task e.cache.numbers e.nodes e.origins.items b.found b.numbered ∙ sym c.count.ensures in
    let next = c.in-Some.ensures.next task e.cache.numbers b.found i.0 b.picking count b.between.searching.known in (
      i.0,
      going-start task e.cache.numbers e.nodes e.origins.items e.picker c.pick.new.self i.0 c.in-Some.place b next
          (c.in-Some.ensures.left task e.cache.numbers b.found i.0 b.picking),
    )

pub expand-requires-clause-next : goal.expand-requires-clause-next
expand-requires-clause-next c =
    let task = task_for c.args.asked.now in
    let e = c.loop-place.self in
    let i = c.loop-place.invariant.going in
    let b = i.2 in
    let all = counted task e.cache.numbers e.nodes e.origins.items b.found b.numbered in
    let count = all ∙ sym c.count.ensures in
    let next = c.in-Some.ensures.next task e.cache.numbers b.found i.0 b.picking count b.between.searching.known in
    let within = place-within-list b.found c.in-Some.place next.moves next.stands in
    subst (λ (n : ℕ). c.in-Some.place < n) all within

pub overflow_add-picks : goal.overflow_add-picks
overflow_add-picks c =
    let task = task_for c.args.asked.now in
    let e = c.loop-place.self in
    let i = c.loop-place.invariant.going in
    let b = i.2 in
    let count = counted task e.cache.numbers e.nodes e.origins.items b.found b.numbered ∙ sym c.count.ensures in
    let next = c.in-Some.ensures.next task e.cache.numbers b.found i.0 b.picking count b.between.searching.known in
    let few = picks_left (space_of task) (order_of task) b.found i.0 c.in-Some.place b.between.searching.known next
    (place-within-list b.found c.in-Some.place next.moves next.stands) in
    omega (arith, few, i.1, b.between.searching.room, c.requires.asked.nodes.1)

pub loop-place-smaller : goal.loop-place-smaller
loop-place-smaller c =
    let task = task_for c.args.asked.now in
    let e = c.loop-place.self in
    let i = c.loop-place.invariant.going in
    let b = i.2 in
    let count = counted task e.cache.numbers e.nodes e.origins.items b.found b.numbered ∙ sym c.count.ensures in
    let next = c.in-Some.ensures.next task e.cache.numbers b.found i.0 b.picking count b.between.searching.known in
    let few = picks_left (space_of task) (order_of task) b.found i.0 c.in-Some.place b.between.searching.known next
    (place-within-list b.found c.in-Some.place next.moves next.stands) in
    omega (arith, few, i.1, b.between.searching.room)

pub loop-place-preserved : goal.loop-place-preserved
loop-place-preserved c =
    let task = task_for c.args.asked.now in
    let e = c.loop-place.self in
    let i = c.loop-place.invariant.going in
    let b = i.2 in
    let count = counted task e.cache.numbers e.nodes e.origins.items b.found b.numbered ∙ sym c.count.ensures in
    let next = c.in-Some.ensures.next task e.cache.numbers b.found i.0 b.picking count b.between.searching.known in
    let going = going-start task e.cache.numbers e.nodes e.origins.items e.picker c.pick.new.self i.0 c.in-Some.place b next
    (c.in-Some.ensures.left task e.cache.numbers b.found i.0 b.picking) in
    record {
      going = (c.in-Some.place ∷ i.0, omega (arith, i.1), c.in_ok-expand.ensures.gone i.0 going);
      explored = c.in_ok-expand.ensures.explored;
    }

pub returns-clause-gone : goal.returns-clause-gone
returns-clause-gone c =
    let task = task_for c.args.asked.now in
    let e = c.loop-place.self in
    let i = c.loop-place.invariant.going in
    let b = i.2 in
    let count = counted task e.cache.numbers e.nodes e.origins.items b.found b.numbered ∙ sym c.count.ensures in
    going-exhausted task e.cache.numbers e.nodes e.origins.items e.picker i.0 b
    (c.in_default.ensures.over task e.cache.numbers b.found i.0 b.picking count)
