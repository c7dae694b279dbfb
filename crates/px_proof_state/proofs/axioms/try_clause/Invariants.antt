use Rattle.std.proofs.Common.{◌≡◌, ℕ, ◌<◌, ◌≤◌}
use Rattle.px_proof_state.specs.Places.{NeverStep}
use Rattle.px_proof_state.proofs.axioms.try_clause.Given as goal

abbrev pub invariant-loop-place : goal.invariant-loop-place
invariant-loop-place l = record {
  same : l.state ≡ l.fn.state;
  never : (j : ℕ) → l.from ≤ j → j < l.place → NeverStep (record { variable_count = l.variable_count; lits = l.lits }) l.fn.state l.goal j;
}
