use Rattle.std.proofs.Common.{◌≡◌, map, take}
use Rattle.px_proof.specs.ProofTerm.{derivation_of}
use Rattle.px_proof.specs.Substitution.{derivation_under}
use Rattle.px_proof.proofs.substitution.+substitute.Given as goal

abbrev pub invariant-substitute_each-loop-proof : goal.invariant-substitute_each-loop-proof
invariant-substitute_each-loop-proof l =
    map derivation_of l.made.items ≡ map (derivation_under l.map) (map derivation_of (take l.proof-index l.proofs))
