use Rattle.std.proofs.Common.{refl, subst}
use Rattle.px_ends.specs.Tasks.{initial_node}
use Rattle.px_support.specs.Asking.{task_for}
use Rattle.px_search.specs.Asking.{IsTriedAt}
use Rattle.px_search.proofs.LoopLaws.{exploring-start, start-alone, start-found, start-limit}
use Rattle.px_search.proofs.best_first.Explored.explore.Goals as goal

pub try_node-requires-clause-node : goal.try_node-requires-clause-node
try_node-requires-clause-node c = (initial_node (task_for c.args.asked.now), c.in_ok-start.ensures.start)

pub returns-in-Answered-clause-stops : goal.returns-in-Answered-clause-stops
returns-in-Answered-clause-stops c =
    let given = c.requires.explored in (
      exploring-start (task_for c.args.asked.now) c.args.self.now _ given c.in_ok-start.ensures.keeps refl refl,
      start-found (task_for c.args.asked.now) c.start_key.new.numbers c.in_ok-start.start c.intern.new.self c.args.self.now.origins.items
          c.in_ok-tried.tried c.in_ok-start.ensures.start
          (start-alone (task_for c.args.asked.now) c.start_key.new.numbers c.in_ok-start.start c.args.self.now.nodes c.intern.new.self
          c.in_ok-intern.field-0 given.nodes c.in_ok-intern.ensures.kept) given.origins c.in_ok-tried.ensures c.in-Answered.is
          c.requires.asked.nodes.0,
    )

pub walk_from-requires-clause-tried : goal.walk_from-requires-clause-tried
walk_from-requires-clause-tried c =
    let task = task_for c.args.asked.now in
    subst (IsTriedAt task (initial_node task)) c.in-Unanswered.is (c.in_ok-tried.ensures (initial_node task) c.in_ok-start.ensures.start)

pub walk_from-requires-clause-explored : goal.walk_from-requires-clause-explored
walk_from-requires-clause-explored c =
    exploring-start (task_for c.args.asked.now) c.args.self.now _ c.requires.explored c.in_ok-start.ensures.keeps refl refl

pub walk_from-requires-clause-start : goal.walk_from-requires-clause-start
walk_from-requires-clause-start c =
    let given = c.requires.explored in
    record {
      stands = c.in_ok-start.ensures.start;
      nodes = start-alone (task_for c.args.asked.now) c.start_key.new.numbers c.in_ok-start.start c.args.self.now.nodes c.intern.new.self
          c.in_ok-intern.field-0 given.nodes c.in_ok-intern.ensures.kept;
      origins = given.origins;
      picker = given.picker;
    }

pub returns-in-Limited-clause-stops : goal.returns-in-Limited-clause-stops
returns-in-Limited-clause-stops c =
    let given = c.requires.explored in (
      exploring-start (task_for c.args.asked.now) c.args.self.now _ given c.in_ok-start.ensures.keeps refl refl,
      start-limit (task_for c.args.asked.now) c.start_key.new.numbers c.in_ok-start.start c.intern.new.self c.args.self.now.origins.items
          c.in_ok-tried.tried c.in-Limited.met c.in_ok-start.ensures.start
          (start-alone (task_for c.args.asked.now) c.start_key.new.numbers c.in_ok-start.start c.args.self.now.nodes c.intern.new.self
          c.in_ok-intern.field-0 given.nodes c.in_ok-intern.ensures.kept) given.origins c.in_ok-tried.ensures c.in-Limited.is
          c.requires.asked.nodes.0,
    )
