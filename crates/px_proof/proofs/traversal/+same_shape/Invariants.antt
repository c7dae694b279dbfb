use Rattle.std.proofs.Common.{◌≡◌, ◌↔◌, map, drop}
use Rattle.px_proof.specs.Derivation.{skeletons, derivations}
use Rattle.px_proof.specs.ProofTerm.{derivation_of}
use Rattle.px_proof.proofs.traversal.+same_shape.Given as goal

-- what is left to be compared, where those up to here have the same shapes
abbrev pub invariant-have_same_shapes-loop-k : goal.invariant-have_same_shapes-loop-k
invariant-have_same_shapes-loop-k l =
    (skeletons (derivations (map derivation_of (drop l.k l.a))) ≡ skeletons (derivations (map derivation_of (drop l.k l.b))))
    ↔ (skeletons (derivations (map derivation_of l.a)) ≡ skeletons (derivations (map derivation_of l.b)))
