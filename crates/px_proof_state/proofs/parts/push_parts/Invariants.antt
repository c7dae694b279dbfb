use Rattle.std.proofs.Common.{◌-◌, length}
use Rattle.px_proof_state.proofs.Opening.{AreOpened}
use Rattle.px_proof_state.proofs.parts.push_parts.Given as goal

abbrev pub invariant-loop-done : goal.invariant-loop-done
invariant-loop-done l =
    AreOpened l.fn.goals.items l.lits l.theta l.place l.at l.goal.next (l.goal.budget - 1) l.goals.items l.first (length l.lits - l.done)
