use Rattle.std.proofs.Common.{◌<◌, ◌≤◌, ◌++◌, ◌∷◌, List, [], length, sym, subst, arith}
use Rattle.px_script.specs.declared.command.Command.{Command}
use Rattle.px_run.proofs.AnswerLemmas.{one-more, so-far-start}
use Rattle.px_run.proofs.CountLemmas.{answered-all, count-more, count-start}
use Rattle.px_run.proofs.counts.counted.Goals as goal

pub loop-place-init : goal.loop-place-init
loop-place-init c = ([], so-far-start c.args.session.now c.requires.start, count-start)

pub count_answer-requires-clause-place : goal.count_answer-requires-clause-place
count_answer-requires-clause-place c =
    let within : c.loop-place.place < length c.args.session.now.commands =
    omega (arith, c.loop-place-test.true, c.count-place-end.ensures) in
    subst (λ (commands : List Command). c.loop-place.place < length commands) (sym c.loop-place.invariant.1.commands) within

pub count_answer-requires-clause-next : goal.count_answer-requires-clause-next
count_answer-requires-clause-next c = sym c.loop-place.invariant.1.done

pub returns : goal.returns
returns c =
    let so_far = c.loop-place.invariant in
    let all : length c.args.session.now.commands ≤ c.loop-place.place = omega (arith, c.loop-place-test.false, c.count-place-end.ensures) in
    (so_far.0, answered-all c.args.session.now _ c.loop-place.place so_far.0 all so_far.1, so_far.2)

pub loop-place-preserved : goal.loop-place-preserved
loop-place-preserved c =
    let so_far = c.loop-place.invariant in
    let more = c.in_ok-counts.ensures in
    let within : c.loop-place.place < length c.args.session.now.commands =
    omega (arith, c.loop-place-test.true, c.count-place-end.ensures) in (
      so_far.0 ++ more.0 ∷ [],
      one-more c.args.session.now _ _ c.loop-place.place so_far.0 more.0 so_far.1 within more.1,
      count-more so_far.0 more.0 _ _ so_far.2 more.2,
    )
