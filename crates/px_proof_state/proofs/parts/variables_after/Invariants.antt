use Rattle.std.proofs.Common.{◌≡◌, ◌≤◌, take, length}
use Rattle.px_terms.specs.Substitution.{variables_from}
use Rattle.px_proof_state.proofs.parts.variables_after.Given as goal

abbrev pub invariant-loop-k : goal.invariant-loop-k
invariant-loop-k l = record {
  within : l.k ≤ l.count;
  long : length l.terms ≡ 12;
  made : take l.k l.terms ≡ variables_from l.first l.k;
}
