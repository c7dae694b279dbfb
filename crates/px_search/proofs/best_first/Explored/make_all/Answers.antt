use Rattle.std.proofs.Common.{◌≡◌, ◌<◌, ℕ, List, Some, length, slice_get, arith, subst, sym}
use Rattle.px_support.specs.Asking.{task_for}
use Rattle.px_search.specs.Looping.{TriesAt}
use Rattle.px_search.specs.declared.step.Step.{Step}
use Rattle.px_search.proofs.best_first.Explored.make_all.Goals as goal

pub step_at-step-requires : goal.step_at-step-requires
step_at-step-requires c =
    subst (λ (l : List Step). c.loop-turn.turn < length l) (sym c.deref.ensures.value)
    (omega (arith, c.loop-turn-test.true, c.len-turn-end.ensures))

pub make_move-requires-clause-trying : goal.make_move-requires-clause-trying
make_move-requires-clause-trying c = (
  c.requires.trying.0,
  c.args.steps.now.items,
  c.requires.trying.1,
  c.loop-turn.turn,
  c.loop-turn.invariant.trying c.requires.trying.0 c.requires.trying.1 c.requires.trying.2,
  subst (λ (l : List Step). slice_get l c.loop-turn.turn ≡ Some c.step_at-step.result) c.deref.ensures.value c.step_at-step.ensures,
)

pub loop-turn-preserved : goal.loop-turn-preserved
loop-turn-preserved c = record {
  within = omega (arith, c.loop-turn-test.true, c.len-turn-end.ensures);
  explored = c.in_ok-make_move.ensures.explored;
  trying = λ picked is_all t. c.in_ok-make_move.ensures.made picked c.args.steps.now.items is_all c.loop-turn.turn
      (c.loop-turn.invariant.trying picked is_all t)
      (subst (λ (l : List Step). slice_get l c.loop-turn.turn ≡ Some c.step_at-step.result) c.deref.ensures.value c.step_at-step.ensures);
}

pub returns-clause-made : goal.returns-clause-made
returns-clause-made c = λ picked is_all t.
    let end : c.loop-turn.turn ≡ length c.args.steps.now.items =
    omega (arith, c.loop-turn-test.false, c.len-turn-end.ensures, c.loop-turn.invariant.within) in
    subst (λ (n : ℕ). TriesAt (task_for c.args.asked.now) c.loop-turn.self picked c.args.next c.args.steps.now.items is_all n) end
    (c.loop-turn.invariant.trying picked is_all t)
