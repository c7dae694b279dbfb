use Rattle.std.proofs.Common.{◌≡◌, ◌++◌, map, drop}
use Rattle.px_proof.specs.Derivation.{all_leaves_of, derivations}
use Rattle.px_proof.specs.ProofTerm.{derivation_of}
use Rattle.px_proof.proofs.traversal.+leaves.Given as goal

-- what is there, and the leaves that are still to come
abbrev pub invariant-add_all_leaves-loop-proof : goal.invariant-add_all_leaves-loop-proof
invariant-add_all_leaves-loop-proof l =
    l.found.items ++ all_leaves_of (derivations (map derivation_of (drop l.proof-index l.proofs)))
    ≡ l.initial.found.items ++ all_leaves_of (derivations (map derivation_of l.proofs))
