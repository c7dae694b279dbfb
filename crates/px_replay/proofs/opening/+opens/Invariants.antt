use Rattle.std.proofs.Common.{◌≡◌, ◌+◌, map, take, sum_by}
use Rattle.px_proof.specs.ProofTerm.{derivation_of}
use Rattle.px_replay.specs.FreshOf.{fresh_of_proof}
use Rattle.px_replay.specs.Opened.{add_at, opened_row}
use Rattle.px_replay.proofs.opening.+opens.Given as goal

abbrev pub invariant-open_each-loop-proof : goal.invariant-open_each-loop-proof
invariant-open_each-loop-proof l = record {
  made : map derivation_of l.made.items
      ≡ opened_row (add_at l.problem l.steps) l.initial.next (map derivation_of (take l.proof-index l.proofs));
  next : l.next ≡ l.initial.next + sum_by fresh_of_proof (take l.proof-index l.proofs);
}
