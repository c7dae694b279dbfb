use Rattle.std.proofs.Common.{subst, sym}
use Rattle.px_table.specs.declared.node.Node.{Node}
use Rattle.px_ends.specs.ByValue.{IsShapeLimit}
use Rattle.px_ends.specs.Ends.{node_of}
use Rattle.px_support.specs.Asking.{task_for}
use Rattle.px_search.proofs.FirstLimits.{limit_of}
use Rattle.px_search.proofs.best_first.Explored.shape_limit.Goals as goal

pub node_at-requires : goal.node_at-requires
node_at-requires c =
    let limited = c.requires.limited in (node_of (task_for c.args.asked.now) limited.first.moves, limited.stands)

pub returns-in-Ok : goal.returns-in-Ok
returns-in-Ok c =
    let task = task_for c.args.asked.now in
    let limited = c.requires.limited in
    subst (λ (n : Node). IsShapeLimit task task.problem.weight n c.args.limit.met)
    (sym (c.in-Ok.ensures (node_of task limited.first.moves) limited.stands)) (limit_of task limited.found c.args.limit.met limited.first)
