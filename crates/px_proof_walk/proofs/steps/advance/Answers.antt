use Rattle.std.proofs.Common.{◌∷◌, [], length, ap, arith, length-append}
use Rattle.px_proof_walk.proofs.Ordering.{onward-start, turn-next, turn-none, turn-retract}
use Rattle.px_proof_walk.proofs.steps.advance.Goals as goal

pub loop-walk-init : goal.loop-walk-init
loop-walk-init g c = record {
  way = onward-start (g.W.Walk.possible c.args.question.now) (g.W.Walk.shorter c.args.question.now) (g.W.Walk.ticks c.args.walk.now);
  within = omega arith;
  stands = c.requires.stands;
}

pub returns-in-None-clause-none : goal.returns-in-None-clause-none
returns-in-None-clause-none g c =
    λ is_false. turn-none (g.W.Walk.possible c.args.question.now) (g.W.Walk.shorter c.args.question.now)
    (g.W.Walk.ticks c.args.walk.now) _ _ _ _
    c.loop-walk.invariant.way c.in_ok-try_after.ensures.tried c.if-not-branch.true c.in-None.ensures.none

pub returns-in-None-clause-longer : goal.returns-in-None-clause-longer
returns-in-None-clause-longer g c = rw (c.in-None.ensures.same, c.in-None.ensures.none) (omega arith)

pub loop-walk-preserved : goal.loop-walk-preserved
loop-walk-preserved g c =
    let same = (c.in_ok-try_after.ensures.tried.no_more c.if-not-branch.true).0 in
    let more = length-append (g.W.Walk.ticks c.retract.new.self) (c.in-Some.tick ∷ []) in
    record {
      way = turn-retract (g.W.Walk.possible c.args.question.now) (g.W.Walk.shorter c.args.question.now)
          (g.W.Walk.ticks c.args.walk.now) _ _ _ _
          c.loop-walk.invariant.way c.in_ok-try_after.ensures.tried c.if-not-branch.true _ _ c.in-Some.ensures.last;
      within = omega (arith, ap length c.in-Some.ensures.last, more, ap length same, c.loop-walk.invariant.within);
      stands = c.in-Some.ensures.still;
    }

pub returns-clause-next : goal.returns-clause-next
returns-clause-next g c =
    λ is_true. turn-next (g.W.Walk.possible c.args.question.now) (g.W.Walk.shorter c.args.question.now)
    (g.W.Walk.ticks c.args.walk.now) _ _ _ _
    c.loop-walk.invariant.way c.in_ok-try_after.ensures.tried c.if-not-branch.false
