use Rattle.px_proof_state.proofs.AncestorRange.{IsOnTheWayUp}
use Rattle.px_proof_state.proofs.ancestors.try_ancestors.Given as goal

abbrev pub invariant-loop-at : goal.invariant-loop-at
invariant-loop-at l = IsOnTheWayUp l.fn.state l.goal l.from l.state l.at l.number

abbrev pub decreases-loop-at : goal.decreases-loop-at
decreases-loop-at l = l.at
