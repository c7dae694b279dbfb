use Rattle.std.proofs.Common.{arith}
use Rattle.px_prover.proofs.Moves.{open-next, open-none}
use Rattle.px_prover.proofs.walking.open_places.Goals as goal

pub overflow_add-count : goal.overflow_add-count
overflow_add-count c = omega (arith, c.loop-at.invariant.within, c.loop-at-test.true, c.first-at.ensures)

pub loop-at-preserved : goal.loop-at-preserved
loop-at-preserved c =
    let next =
    open-next c.args.state.now.goals c.loop-at.at c.goal_at-at.result c.requires.arena c.loop-at-test.true c.goal_at-at.ensures in
    record {
      within = omega (arith, next.1, c.loop-at.invariant.within, c.loop-at-test.true);
      made = omega (arith, next.0, c.loop-at.invariant.made);
    }

pub returns : goal.returns
returns c =
    omega (arith, c.loop-at.invariant.made, open-none c.args.state.now.goals c.loop-at.at (omega (arith, c.loop-at-test.false)))
