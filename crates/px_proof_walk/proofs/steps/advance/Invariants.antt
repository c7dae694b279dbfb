use Rattle.std.proofs.Common.{length, ◌≤◌}
use Rattle.px_proof_walk.specs.Order.{IsOnTheWay}
use Rattle.px_proof_walk.proofs.steps.advance.Given as goal

abbrev pub invariant-loop-walk : goal.invariant-loop-walk
invariant-loop-walk g l = record {
  way : IsOnTheWay (g.W.Walk.possible l.question) (g.W.Walk.ticks l.fn.walk) (g.W.Walk.ticks l.walk) l.last;
  within : length (g.W.Walk.ticks l.walk) ≤ length (g.W.Walk.ticks l.fn.walk);
  stands : g.W.Walk.stands l.question l.walk;
}

abbrev pub decreases-loop-walk : goal.decreases-loop-walk
decreases-loop-walk g l = length (g.W.Walk.ticks l.walk)
