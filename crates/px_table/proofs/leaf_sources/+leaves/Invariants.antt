use Rattle.std.proofs.Common.{◌↔◌, map, drop}
use Rattle.std.specs.Prelude.{All}
use Rattle.px_terms.specs.Validity.{IsAtomOf}
use Rattle.px_proof.specs.declared.proof.Leaf.{Leaf}
use Rattle.px_proof.specs.Derivation.{derivations, all_leaves_of}
use Rattle.px_proof.specs.ProofTerm.{derivation_of}
use Rattle.px_table.specs.Marks.{IsNamed, mark_of}
use Rattle.px_table.proofs.leaf_sources.+leaves.Given as goal

-- what is left to be tested, where the leaves of the proofs up to here pass
abbrev pub invariant-proofs_are_named-loop-proof : goal.invariant-proofs_are_named-loop-proof
invariant-proofs_are_named-loop-proof l =
    All (λ (leaf : Leaf). IsAtomOf l.problem l.params leaf.atom × IsNamed l.problem l.steps (mark_of l.row leaf))
    (all_leaves_of (derivations (map derivation_of (drop l.proof-index l.proofs))))
    ↔ All (λ (leaf : Leaf). IsAtomOf l.problem l.params leaf.atom × IsNamed l.problem l.steps (mark_of l.row leaf))
    (all_leaves_of (derivations (map derivation_of l.proofs)))
