use Rattle.std.proofs.Common.{◌<◌, ◌≤◌, ◌++◌, ◌∷◌, List, [], length, refl, sym, subst, ◌∙◌, arith}
use Rattle.px_script.specs.declared.command.Command.{Command}
use Rattle.px_session.specs.Transcripts.{texts}
use Rattle.px_run.proofs.AnswerLemmas.{begun-of, broke-after, next-of, one-more, so-far-start, text-more, text-of, wrote-both, wrote-none, wrote-nothing}
use Rattle.px_run.proofs.running.execute.Goals as goal

pub loop-place-init : goal.loop-place-init
loop-place-init g c = ([], so-far-start c.args.session.now c.requires.start, wrote-none _ _ _, refl)

pub put_answer-requires-clause-place : goal.put_answer-requires-clause-place
put_answer-requires-clause-place g c =
    let within : c.loop-place.place < length c.args.session.now.commands =
    omega (arith, c.loop-place-test.true, c.count-place-end.ensures) in
    subst (λ (commands : List Command). c.loop-place.place < length commands) (sym c.loop-place.invariant.1.commands) within

pub put_answer-requires-clause-next : goal.put_answer-requires-clause-next
put_answer-requires-clause-next g c = sym c.loop-place.invariant.1.done

pub returns-in-Err-Fault-clause-right : goal.returns-in-Err-Fault-clause-right
returns-in-Err-Fault-clause-right g c =
    let so_far = c.loop-place.invariant in
    let right = rw c.in-Err-Fault.field-0-is at c.in-Err-Fault.ensures.right in
    let within : c.loop-place.place < length c.args.session.now.commands =
    omega (arith, c.loop-place-test.true, c.count-place-end.ensures) in (
      texts c.args.session.now.names so_far.0,
      _,
      next-of c.args.session.now _ _ c.loop-place.place so_far.0 right.0 so_far.1 within right.1,
      broke-after _ _ _ _ _ _ _ _ _ _ so_far.3 so_far.2 right.2,
    )

pub returns-in-Err-NoMemory-clause-right : goal.returns-in-Err-NoMemory-clause-right
returns-in-Err-NoMemory-clause-right g c =
    let so_far = c.loop-place.invariant in
    let right = rw c.in-Err-NoMemory.field-0-is at c.in-Err-NoMemory.ensures.right in (
      texts c.args.session.now.names so_far.0,
      begun-of c.args.session.now _ c.loop-place.place so_far.0 so_far.1,
      wrote-nothing _ _ _ _ _ _ _ _ _ so_far.2 right,
    )

pub returns-clause-right : goal.returns-clause-right
returns-clause-right g c =
    let so_far = c.loop-place.invariant in
    let all : length c.args.session.now.commands ≤ c.loop-place.place = omega (arith, c.loop-place-test.false, c.count-place-end.ensures) in
    (texts c.args.session.now.names so_far.0, text-of c.args.session.now _ c.loop-place.place so_far.0 all so_far.1, so_far.2)

pub loop-place-preserved : goal.loop-place-preserved
loop-place-preserved g c =
    let so_far = c.loop-place.invariant in
    let right = c.in-Ok.ensures.right in
    let within : c.loop-place.place < length c.args.session.now.commands =
    omega (arith, c.loop-place-test.true, c.count-place-end.ensures) in (
      so_far.0 ++ right.0 ∷ [],
      one-more c.args.session.now _ _ c.loop-place.place so_far.0 right.0 so_far.1 within right.1,
      rw (text-more c.args.session.now _ _ c.loop-place.place so_far.0 right.0 so_far.1 right.1)
          (wrote-both _ _ _ _ _ _ _ _ _ _ so_far.2 right.2),
      c.in-Ok.ensures.nature ∙ so_far.3,
    )
