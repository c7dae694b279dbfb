use Rattle.px_search.proofs.FromLaws.{none_top}
use Rattle.px_search.proofs.cache.Cache.steps_anew.Goals as goal

pub goal_steps-requires-clause-node : goal.goal_steps-requires-clause-node
goal_steps-requires-clause-node c =
    let n = c.requires.node in
    (n.node, n.stands, none_top c.args.self.now.numbers n.node.stack (c.in-None.ensures.top n.node.stack n.stands.stack), n.tried)

pub top_steps-requires-clause-node : goal.top_steps-requires-clause-node
top_steps-requires-clause-node c =
    let n = c.requires.node in
    (n.node, n.stands, n.entries, c.in-Some.ensures.top n.node.stack n.stands.stack)
