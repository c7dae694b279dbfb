use Rattle.std.proofs.Common.{◌≡◌, ◌-◌, ◌<◌, List, Some, length, slice_get, sym, subst, arith}
use Rattle.px_support.specs.Asking.{task_for}
use Rattle.px_search.specs.declared.step.Origin.{Origin}
use Rattle.px_search.proofs.TreeNodes.{node-there, origin-within, parent-within, step-there, tells-first, tells-later}
use Rattle.px_search.proofs.trees.tree_node.Goals as goal

pub needs-requires-clause-node : goal.needs-requires-clause-node
needs-requires-clause-node c =
    let e = c.args.explored.now in
    let f = c.requires.numbered in
    node-there (task_for c.args.asked.now) e.cache.numbers e.nodes e.origins.items f.0 f.1 c.args.place c.node-key.result c.node-key.ensures

pub returns-then-place-eq0-clause-node : goal.returns-then-place-eq0-clause-node
returns-then-place-eq0-clause-node c = λ found moves are at.
    let e = c.args.explored.now in
    tells-first (task_for c.args.asked.now) e.cache.numbers e.nodes e.origins.items found are c.args.place c.node-key.result
    c.in_ok-needs.needs moves c.if-place-eq0.true c.node-key.ensures c.in_ok-needs.ensures.needs at

pub origin_at-parent-requires : goal.origin_at-parent-requires
origin_at-parent-requires c =
    let e = c.args.explored.now in
    let f = c.requires.numbered in
    subst (λ (l : List Origin). c.args.place - 1 < length l) (sym c.deref.ensures.value)
    (origin-within (task_for c.args.asked.now) e.cache.numbers e.nodes e.origins.items f.0 f.1 c.args.place c.requires.place
    (omega (arith, c.if-place-eq0.false)))

pub node-requires : goal.node-requires
node-requires c =
    let e = c.args.explored.now in
    let f = c.requires.numbered in
    let at_origin : slice_get e.origins.items (c.args.place - 1) ≡ Some c.origin_at-parent.result =
    subst (λ (l : List Origin). slice_get l (c.args.place - 1) ≡ Some c.origin_at-parent.result) c.deref.ensures.value
    c.origin_at-parent.ensures in
    parent-within (task_for c.args.asked.now) e.cache.numbers e.nodes e.origins.items f.0 f.1 (c.args.place - 1) c.origin_at-parent.result
    at_origin

pub move_at-requires-clause-made : goal.move_at-requires-clause-made
move_at-requires-clause-made c =
    let e = c.args.explored.now in
    let f = c.requires.numbered in
    let at_origin : slice_get e.origins.items (c.args.place - 1) ≡ Some c.origin_at-parent.result =
    subst (λ (l : List Origin). slice_get l (c.args.place - 1) ≡ Some c.origin_at-parent.result) c.deref.ensures.value
    c.origin_at-parent.ensures in
    step-there (task_for c.args.asked.now) e.cache.numbers e.nodes e.origins.items f.0 f.1 (c.args.place - 1) c.origin_at-parent.result
    c.node.result at_origin c.node.ensures

pub returns-clause-node : goal.returns-clause-node
returns-clause-node c = λ found moves are at.
    let e = c.args.explored.now in
    let at_origin : slice_get e.origins.items (c.args.place - 1) ≡ Some c.origin_at-parent.result =
    subst (λ (l : List Origin). slice_get l (c.args.place - 1) ≡ Some c.origin_at-parent.result) c.deref.ensures.value
    c.origin_at-parent.ensures in
    tells-later (task_for c.args.asked.now) e.cache.numbers e.nodes e.origins.items found are c.args.place c.node-key.result
    c.in_ok-needs.needs moves c.origin_at-parent.result c.node.result c.in_ok-last.last (omega (arith, c.if-place-eq0.false))
    c.node-key.ensures
    c.in_ok-needs.ensures.needs at_origin c.node.ensures c.in_ok-last.ensures at
