use Rattle.std.proofs.Common.{true, refl, subst, arith}
use Rattle.px_table.specs.declared.node.Node.{Node}
use Rattle.px_diff.specs.Outcomes.{AtStop}
use Rattle.px_diff.specs.declared.move_err.MoveErr.{MoveErr}
use Rattle.px_numbers.specs.Numbers.{IsKeyOf}
use Rattle.px_support.specs.Asking.{task_for}
use Rattle.px_search.specs.Going.{LimitsNode}
use Rattle.px_search.proofs.SuccessorLaws.{unlimited-here, others-from, trying-others}
use Rattle.px_search.proofs.GoingLaws.{here_of, trying-within}
use Rattle.px_search.proofs.LoopLaws.{exploring-grows, node-done}
use Rattle.px_search.proofs.best_first.Explored.make_others.Goals as goal

pub node-key-requires : goal.node-key-requires
node-key-requires c = trying-within (task_for c.args.asked.now) c.requires.trying.4

pub all_steps_from-requires-clause-node : goal.all_steps_from-requires-clause-node
all_steps_from-requires-clause-node c = here_of (task_for c.args.asked.now) c.requires.trying.4.going c.node-key.ensures

pub unreachable-requires : goal.unreachable-requires
unreachable-requires c =
    let task = task_for c.args.asked.now in
    let e = c.args.self.now in
    let r = c.requires.trying in
    unlimited-here task r.4 r.3 c.node-key.ensures c.in-Err-ShapeLimit.field-0-0
    (subst (λ (x : MoveErr). AtStop x (λ limit. (node : Node) → IsKeyOf e.cache.numbers c.node-key.result node
    → LimitsNode task node limit)) c.in-Err-ShapeLimit.field-0-is c.in-Err-ShapeLimit.ensures.limited)

pub make_all-requires-clause-trying : goal.make_all-requires-clause-trying
make_all-requires-clause-trying c =
    let r = c.requires.trying in (
      r.0,
      true,
      trying-others (task_for c.args.asked.now) r.4 r.3 c.node-key.ensures c.in-Ok.steps.items c.in-Ok.ensures.steps
          c.in-Ok.ensures.cache.keeps,
    )

pub make_all-requires-clause-from : goal.make_all-requires-clause-from
make_all-requires-clause-from c =
    let r = c.requires.trying in
    others-from (task_for c.args.asked.now) r.4 r.3 c.node-key.ensures c.in-Ok.steps.items c.in-Ok.ensures.steps

pub make_all-requires-clause-explored : goal.make_all-requires-clause-explored
make_all-requires-clause-explored c =
    exploring-grows (task_for c.args.asked.now) c.args.self.now _ c.in-Ok.ensures.cache refl c.requires.explored

pub returns-clause-gone : goal.returns-clause-gone
returns-clause-gone c = λ picked steps is_all from_is t.
    let task = task_for c.args.asked.now in
    node-done task (c.in_ok-make_all.ensures.made picked true
    (trying-others task t from_is c.node-key.ensures c.in-Ok.steps.items c.in-Ok.ensures.steps c.in-Ok.ensures.cache.keeps))
    (omega arith) refl
