use Rattle.std.proofs.Common.{◌≡◌, ℕ, ◌<◌, ◌≤◌}
use Rattle.px_proof_state.specs.Ranges.{NeverFact}
use Rattle.px_proof_state.proofs.facts.try_facts.Given as goal

abbrev pub invariant-loop-number : goal.invariant-loop-number
invariant-loop-number l = record {
  same : l.state ≡ l.fn.state;
  never : (j : ℕ) → l.from ≤ j → j < l.number → NeverFact l.objects l.facts l.fn.state l.goal j;
}
