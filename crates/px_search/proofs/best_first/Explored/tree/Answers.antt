use Rattle.std.proofs.Common.{List, arith, subst, sym}
use Rattle.px_tree.specs.declared.nodes.TreeNode.{TreeNode}
use Rattle.px_ends.specs.Trees.{IsTree}
use Rattle.px_support.specs.Asking.{task_for}
use Rattle.px_search.proofs.TreeNodes.{came-found, came-to, came-tree}
use Rattle.px_search.proofs.best_first.Explored.tree.Goals as goal

pub tree_nodes-requires-clause-numbered : goal.tree_nodes-requires-clause-numbered
tree_nodes-requires-clause-numbered c =
    let task = task_for c.args.asked.now in
    let e = c.explore-came_to.new.self in
    came-found task e c.in_ok-end.end
    (came-to task e c.explore-came_to.result c.in_ok-end.end c.explore-came_to.ensures.gone c.explore-came_to.ensures.stops
    c.in_ok-end.ensures.end)

pub tree_nodes-requires-clause-count : goal.tree_nodes-requires-clause-count
tree_nodes-requires-clause-count c = omega (arith, c.min-count.ensures, c.count.ensures)

pub returns : goal.returns
returns c =
    let task = task_for c.args.asked.now in
    let e = c.explore-came_to.new.self in
    subst (λ (nodes : List TreeNode). IsTree task task.problem.weight (record { nodes = nodes; end = c.in_ok-end.end }))
    (sym c.from_vec.ensures)
    (came-tree task e c.in_ok-end.end c.in_ok-nodes.nodes.items c.min-count.result c.count.result
    (came-to task e c.explore-came_to.result c.in_ok-end.end c.explore-came_to.ensures.gone c.explore-came_to.ensures.stops
    c.in_ok-end.ensures.end) c.count.ensures c.min-count.ensures c.in_ok-nodes.ensures.count c.in_ok-nodes.ensures.nodes)
