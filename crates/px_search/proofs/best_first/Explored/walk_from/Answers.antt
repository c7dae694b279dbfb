use Rattle.px_support.specs.Asking.{task_for}
use Rattle.px_search.proofs.LoopLaws.{start-from}
use Rattle.px_search.proofs.best_first.Explored.walk_from.Goals as goal

pub walk-requires-clause-going : goal.walk-requires-clause-going
walk-requires-clause-going c =
    let e = c.args.self.now in
    let start = c.requires.start in
    start-from (task_for c.args.asked.now) e.cache.numbers c.args.start e.nodes e.origins.items c.start.new.self start.stands
    c.requires.tried c.requires.asked.nodes.0 start.nodes start.origins c.in_ok-start.ensures
