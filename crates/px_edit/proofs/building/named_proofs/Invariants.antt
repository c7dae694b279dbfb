use Rattle.std.proofs.Common.{◌≡◌, take, map}
use Rattle.px_proof.specs.ProofTerm.{derivation_of}
use Rattle.px_proof.specs.Substitution.{derivation_under}
use Rattle.px_edit.proofs.building.named_proofs.Given as goal

abbrev pub invariant-loop-proof : goal.invariant-loop-proof
invariant-loop-proof l = map derivation_of l.made.items ≡ map (derivation_under l.names) (map derivation_of (take l.proof-index l.proofs))
