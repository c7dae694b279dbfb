use Rattle.std.proofs.Common.{ap, ◌∙◌, sym, subst}
use Rattle.std.specs.Prelude.{◌↔◌, All, IsTrue}
use Rattle.px_terms.specs.Validity.{IsAtomOf}
use Rattle.px_proof.specs.declared.proof.Leaf.{Leaf}
use Rattle.px_proof.specs.Derivation.{Derivation, leaves_of}
use Rattle.px_proof.specs.LayerLaws.{derivation_of-step}
use Rattle.px_proof.specs.ProofTerm.{derivation_of}
use Rattle.px_table.specs.Marks.{IsNamed, mark_of}
use Rattle.px_table.proofs.LeafSteps.{leaves-split, no-leaves}
use Rattle.px_table.proofs.leaf_sources.+leaves.Goals as goal

pub proof_is_named-returns-in-Step : goal.proof_is_named-returns-in-Step
proof_is_named-returns-in-Step t c =
    let is = ap derivation_of c.in-Step.is ∙ derivation_of-step c.in-Step.clause c.in-Step.theta c.in-Step.place c.in-Step.subs in
    subst (λ (d : Derivation). IsTrue c.proofs_are_named.result
    ↔ All (λ (leaf : Leaf). IsAtomOf c.args.problem.now c.args.params leaf.atom
    × IsNamed c.args.problem.now c.args.steps.now (mark_of c.args.row leaf)) (leaves_of d)) (sym is)
    (rw c.as_slice.ensures at c.proofs_are_named.ensures)

pub proofs_are_named-returns-then-not-proof_is_named : goal.proofs_are_named-returns-then-not-proof_is_named
proofs_are_named-returns-then-not-proof_is_named t c =
    let split =
    leaves-split (λ (leaf : Leaf). IsAtomOf c.args.problem.now c.args.params leaf.atom
    × IsNamed c.args.problem.now c.args.steps.now (mark_of c.args.row leaf)) c.args.proofs.now c.loop-proof.proof-index c.proof-item.result
    c.proof-item.is c.loop-proof-test.true in (
      λ yes. cc,
      λ all.
          let here = c.proof_is_named.ensures.1 (split.0 (c.loop-proof.invariant.1 all)).0 in let no_proof = c.if-not-proof_is_named.true in
          cc,
    )

pub proofs_are_named-loop-proof-preserved : goal.proofs_are_named-loop-proof-preserved
proofs_are_named-loop-proof-preserved t c =
    let split =
    leaves-split (λ (leaf : Leaf). IsAtomOf c.args.problem.now c.args.params leaf.atom
    × IsNamed c.args.problem.now c.args.steps.now (mark_of c.args.row leaf)) c.args.proofs.now c.loop-proof.proof-index c.proof-item.result
    c.proof-item.is c.loop-proof-test.true in (
      λ rest. c.loop-proof.invariant.0 (split.1 (c.proof_is_named.ensures.0 c.if-not-proof_is_named.false, rest)),
      λ all. (split.0 (c.loop-proof.invariant.1 all)).1,
    )

pub proofs_are_named-returns : goal.proofs_are_named-returns
proofs_are_named-returns t c =
    let nothing = no-leaves (λ (leaf : Leaf). IsAtomOf c.args.problem.now c.args.params leaf.atom
    × IsNamed c.args.problem.now c.args.steps.now (mark_of c.args.row leaf)) c.args.proofs.now c.loop-proof.proof-index
    c.loop-proof-test.false in (
      λ _. c.loop-proof.invariant.0 nothing,
      λ _. cc,
    )
