use Rattle.std.proofs.Common.{◌≡◌, ℕ, ◌<◌, ◌≤◌}
use Rattle.px_proof_state.specs.Axioms.{NeverAxiom}
use Rattle.px_proof_state.proofs.axioms.try_axioms.Given as goal

abbrev pub invariant-loop-number : goal.invariant-loop-number
invariant-loop-number l = record {
  same : l.state ≡ l.fn.state;
  never : (j : ℕ) → l.from ≤ j → j < l.number → NeverAxiom l.axioms l.fn.state l.goal l.from l.place j;
}
