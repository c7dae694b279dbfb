use Rattle.std.proofs.Common.{ℕ, ◌<◌, ◌≤◌, get_or}
use Rattle.px_proof.specs.declared.proof.Proof.{Proof}
use Rattle.px_proof.specs.Derivation.{height}
use Rattle.px_proof.specs.ProofTerm.{derivation_of}
use Rattle.px_proof.proofs.traversal.+height.Given as goal

abbrev pub invariant-is_one_higher_than-loop-proof : goal.invariant-is_one_higher_than-loop-proof
invariant-is_one_higher_than-loop-proof l = (k : ℕ) (d : Proof) → k < l.proof-index → height (derivation_of (get_or l.proofs k d)) ≤ l.limit
