use Rattle.std.proofs.Common.{◌≤◌, ◌+◌, ◌∙◌, List, map, sym, subst}
use Rattle.px_base.specs.Bounds.{u32_max}
use Rattle.px_proof.specs.declared.proof.Leaf.{Leaf}
use Rattle.px_proof.specs.declared.proof.Proof.{Proof}
use Rattle.px_proof.specs.Derivation.{leaves_of}
use Rattle.px_proof.specs.ProofTerm.{derivation_of}
use Rattle.px_support.specs.Sources.{AreSources}
use Rattle.px_support.proofs.SourceLaws.{if_sourced, no_later_columns, sources-count}
use Rattle.px_support.proofs.sources.sourced.Goals as goal

pub graft-requires-clause-parts : goal.graft-requires-clause-parts
graft-requires-clause-parts c =
    sources-count c.args.problem.now c.args.steps.now (derivation_of c.args.proof.now) c.deref-2.result.now c.requires.leaves
    (subst (λ (ps : List Proof). AreSources c.args.problem.now c.args.steps.now (leaves_of (derivation_of c.args.proof.now))
    (map derivation_of ps)) (sym c.deref-2.ensures.value)
    (subst (λ (ls : List Leaf). AreSources c.args.problem.now c.args.steps.now ls (map derivation_of c.in_ok-parts.parts.items))
    (c.deref.ensures.value ∙ c.in_ok-old.ensures) c.in_ok-parts.ensures))

pub graft-requires-clause-columns : goal.graft-requires-clause-columns
graft-requires-clause-columns c =
    no_later_columns (λ (leaf : Leaf). leaf.column + 0 ≤ u32_max) (derivation_of c.args.proof.now) c.requires.leaves

pub returns : goal.returns
returns c =
    if_sourced c.args.problem.now c.args.steps.now (derivation_of c.args.proof.now) (map derivation_of c.deref-2.result.now) c.graft.result
    (subst (λ (ps : List Proof). AreSources c.args.problem.now c.args.steps.now (leaves_of (derivation_of c.args.proof.now))
    (map derivation_of ps)) (sym c.deref-2.ensures.value)
    (subst (λ (ls : List Leaf). AreSources c.args.problem.now c.args.steps.now ls (map derivation_of c.in_ok-parts.parts.items))
    (c.deref.ensures.value ∙ c.in_ok-old.ensures) c.in_ok-parts.ensures)) c.graft.ensures.value
