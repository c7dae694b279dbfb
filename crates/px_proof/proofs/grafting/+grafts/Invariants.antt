use Rattle.std.proofs.Common.{◌≡◌, ◌+◌, ◌++◌, map, drop}
use Rattle.px_proof.specs.ProofTerm.{derivation_of}
use Rattle.px_proof.proofs.Grafts.{all_take, each_grafted}
use Rattle.px_proof.proofs.grafting.+grafts.Given as goal

-- what is made, and what the proofs that are left will make of the parts that are left
abbrev pub invariant-graft_each-loop-proof : goal.invariant-graft_each-loop-proof
invariant-graft_each-loop-proof l = record {
  used : l.used + all_take (map derivation_of (drop l.proof-index l.proofs)) ≡ l.initial.used + all_take (map derivation_of l.proofs);
  made : map derivation_of l.made.items
      ++ each_grafted l.shift (drop l.used (map derivation_of l.parts)) (map derivation_of (drop l.proof-index l.proofs))
      ≡ each_grafted l.shift (drop l.initial.used (map derivation_of l.parts)) (map derivation_of l.proofs);
}
