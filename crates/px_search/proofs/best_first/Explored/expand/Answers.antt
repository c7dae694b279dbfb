use Rattle.std.proofs.Common.{◌≡◌, ℕ, length, sym, ◌∙◌, subst, arith}
use Rattle.px_diff.specs.Outcomes.{AtStop}
use Rattle.px_diff.specs.declared.move_err.MoveErr.{MoveErr}
use Rattle.px_support.specs.Asking.{task_for}
use Rattle.px_search.specs.Going.{LimitsAt}
use Rattle.px_search.specs.Looping.{TriesAt}
use Rattle.px_search.specs.Cache.{HaveGrown}
use Rattle.px_search.specs.CurrentModels.{IsCurrent}
use Rattle.px_search.proofs.GoingLaws.{here_of, limit-here, pick-going, trying-start}
use Rattle.px_search.proofs.LoopLaws.{node-done}
use Rattle.px_search.proofs.best_first.Explored.expand.Goals as goal

pub successors_of-requires-clause-node : goal.successors_of-requires-clause-node
successors_of-requires-clause-node c =
    let task = task_for c.args.asked.now in
    here_of task (pick-going task c.requires.picked.1) c.node-key.ensures

pub returns-in-Err-ShapeLimit-clause-stops : goal.returns-in-Err-ShapeLimit-clause-stops
returns-in-Err-ShapeLimit-clause-stops c =
    let task = task_for c.args.asked.now in
    let e = c.args.self.now in
    let old = e.cache in
    let new = c.successors_of.new.self in
    let current = c.successors_of.new.current in
    let grown : HaveGrown task old new =
    subst (λ (e : MoveErr). AtStop e (λ limit. HaveGrown task old new)) c.in-Err-ShapeLimit.field-0-is
    c.in-Err-ShapeLimit.ensures.cache in (
      record {
        cache = grown.right;
        current = subst (λ (e : MoveErr). AtStop e (λ limit. IsCurrent task new.numbers current)) c.in-Err-ShapeLimit.field-0-is
            c.in-Err-ShapeLimit.ensures.current;
      },
      limit-here task c.in-Err-ShapeLimit.met grown.keeps c.requires.picked.1 c.node-key.ensures
          (subst (λ (e : MoveErr). AtStop e (LimitsAt task old.numbers c.node-key.result)) c.in-Err-ShapeLimit.field-0-is
          c.in-Err-ShapeLimit.ensures.limited),
    )

pub make_all-requires-clause-explored : goal.make_all-requires-clause-explored
make_all-requires-clause-explored c = record { cache = c.in-Ok.ensures.cache.right; current = c.in-Ok.ensures.current }

pub make_all-requires-clause-trying : goal.make_all-requires-clause-trying
make_all-requires-clause-trying c = (
  c.requires.picked.0,
  c.in-Ok.successors.is_all,
  trying-start (task_for c.args.asked.now) c.in-Ok.successors.steps.items c.in-Ok.successors.is_all c.in-Ok.ensures.cache.keeps
      (pick-going (task_for c.args.asked.now) c.requires.picked.1) c.node-key.ensures c.in-Ok.ensures.steps,
)

pub returns-then-successors-clause-gone : goal.returns-then-successors-clause-gone
returns-then-successors-clause-gone c = λ picked going.
    let task = task_for c.args.asked.now in
    let steps = c.in-Ok.successors.steps.items in
    let is_all = c.in-Ok.successors.is_all in
    let trying =
    trying-start task steps is_all c.in-Ok.ensures.cache.keeps (pick-going task going) c.node-key.ensures c.in-Ok.ensures.steps in
    node-done task (c.in_ok-make_all.ensures.made picked is_all trying) (omega arith) c.if-successors.true

pub make_others-requires-clause-trying : goal.make_others-requires-clause-trying
make_others-requires-clause-trying c =
    let task = task_for c.args.asked.now in
    let steps = c.in-Ok.successors.steps.items in
    let is_all = c.in-Ok.successors.is_all in
    let picked = c.requires.picked.0 in
    let going = c.requires.picked.1 in
    let trying =
    trying-start task steps is_all c.in-Ok.ensures.cache.keeps (pick-going task going) c.node-key.ensures c.in-Ok.ensures.steps in
    let from_is : c.len.result ≡ length steps = c.len.ensures ∙ c.in-Ok.successors.steps.ok.0 in (
      picked,
      steps,
      is_all,
      from_is,
      subst (λ (n : ℕ). TriesAt task c.make_all.new.self picked c.args.next steps is_all n) (sym from_is)
          (c.in_ok-make_all.ensures.made picked is_all trying),
    )

pub returns-clause-gone : goal.returns-clause-gone
returns-clause-gone c = λ picked going.
    let task = task_for c.args.asked.now in
    let steps = c.in-Ok.successors.steps.items in
    let is_all = c.in-Ok.successors.is_all in
    let trying =
    trying-start task steps is_all c.in-Ok.ensures.cache.keeps (pick-going task going) c.node-key.ensures c.in-Ok.ensures.steps in
    let from_is : c.len.result ≡ length steps = c.len.ensures ∙ c.in-Ok.successors.steps.ok.0 in
    c.in_ok-make_others.ensures.gone picked steps is_all from_is
    (subst (λ (n : ℕ). TriesAt task c.make_all.new.self picked c.args.next steps is_all n) (sym from_is)
    (c.in_ok-make_all.ensures.made picked is_all trying))
