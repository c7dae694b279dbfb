use Rattle.std.proofs.Common.{refl, subst}
use Rattle.px_support.specs.Asking.{task_for}
use Rattle.px_search.specs.Looping.{StopsAt}
use Rattle.px_search.proofs.best_first.found_by_moves.Goals as goal

pub explore-requires-clause-explored : goal.explore-requires-clause-explored
explore-requires-clause-explored c = c.new-explored.ensures (task_for c.args.asked.now) refl c.requires.never_limited

pub returns-in-Ok-clause-ends : goal.returns-in-Ok-clause-ends
returns-in-Ok-clause-ends c = c.in-Ok.ensures.gone.2.0

pub path-moves-requires : goal.path-moves-requires
path-moves-requires c = record {
  reached = (subst (StopsAt (task_for c.args.asked.now) c.explore.new.self) c.in-Err-Solved.field-0-is c.in-Err-Solved.ensures.stops).1;
}

pub node_limit-requires : goal.node_limit-requires
node_limit-requires c = record {
  full = (subst (StopsAt (task_for c.args.asked.now) c.explore.new.self) c.in-Err-Full.field-0-is c.in-Err-Full.ensures.stops).1;
}

pub shape_limit-end-requires : goal.shape_limit-end-requires
shape_limit-end-requires c = record {
  limited = (subst (StopsAt (task_for c.args.asked.now) c.explore.new.self) c.in-Err-Limited.field-0-is c.in-Err-Limited.ensures.stops).1;
}
