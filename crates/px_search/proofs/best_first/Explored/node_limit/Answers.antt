use Rattle.std.proofs.Common.{List, subst, sym}
use Rattle.px_table.specs.declared.node.Node.{Node}
use Rattle.px_ends.specs.ByValue.{IsNodeLimit}
use Rattle.px_support.specs.Asking.{task_for}
use Rattle.px_search.proofs.LoopLaws.{full-count, full-limit, full-stand}
use Rattle.px_search.proofs.best_first.Explored.node_limit.Goals as goal

pub new-firsts-requires-clause-count : goal.new-firsts-requires-clause-count
new-firsts-requires-clause-count c =
    let e = c.args.self in
    full-count (task_for c.args.asked.now) e.cache.numbers e.nodes e.origins.items c.args.moves c.requires.full

pub new-firsts-requires-clause-stand : goal.new-firsts-requires-clause-stand
new-firsts-requires-clause-stand c =
    let e = c.args.self in
    full-stand (task_for c.args.asked.now) e.cache.numbers e.nodes e.origins.items c.args.moves c.requires.full

pub returns : goal.returns
returns c =
    let task = task_for c.args.asked.now in
    let e = c.args.self in
    let full = c.requires.full in
    let stand = full-stand task e.cache.numbers e.nodes e.origins.items c.args.moves full in
    subst (λ (nodes : List Node). IsNodeLimit task task.problem.weight nodes c.args.moves)
    (sym (c.new-firsts.ensures stand.0 stand.1))
    (full-limit task e.cache.numbers e.nodes e.origins.items c.args.moves full stand.0 stand.1)
