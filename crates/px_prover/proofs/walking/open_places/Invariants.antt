use Rattle.std.proofs.Common.{◌≡◌, ◌≤◌, ◌+◌, length}
use Rattle.px_proof_state.specs.Arena.{goals_at}
use Rattle.px_prover.proofs.walking.open_places.Given as goal

abbrev pub invariant-loop-at : goal.invariant-loop-at
invariant-loop-at l = record {
  within : l.count + l.at ≤ l.state.first;
  made : l.count + length (goals_at l.state.goals l.at) ≡ length (goals_at l.state.goals l.state.first);
}

abbrev pub decreases-loop-at : goal.decreases-loop-at
decreases-loop-at l = l.at
