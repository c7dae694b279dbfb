use Rattle.std.proofs.Common.{List, [], ◌∷◌, map, ap, ◌∙◌, subst, sym}
use Rattle.std.proofs.lemmas.List.{map-append, take_all}
use Rattle.std.specs.Prelude.{Contains}
use Rattle.px_proof.specs.declared.proof.Leaf.{Leaf}
use Rattle.px_proof.specs.Derivation.{Derivation}
use Rattle.px_proof.specs.ProofTerm.{derivation_of}
use Rattle.px_base.specs.ListLaws.{All-at}
use Rattle.px_support.specs.Grafted.{AreParts, IsPartFor}
use Rattle.px_support.proofs.GraftSteps.{taken-more}
use Rattle.px_support.proofs.Lists.{zip-grown}
use Rattle.px_support.proofs.grafts.parts_for.Goals as goal

pub part_for-requires-clause-atom : goal.part_for-requires-clause-atom
part_for-requires-clause-atom c =
    All-at (λ (leaf : Leaf). Contains c.args.graft.now.formula.now leaf.atom) c.args.leaves.now c.leaf-item.result c.requires.leaves
    (c.loop-leaf.leaf-index, c.loop-leaf-test.true, sym c.leaf-item.is)

pub loop-leaf-preserved : goal.loop-leaf-preserved
loop-leaf-preserved c =
    zip-grown (λ (leaf : Leaf) (part : Derivation). IsPartFor c.args.graft.now (map derivation_of c.args.firsts.now) leaf.atom part) _ _ _ _
    c.leaf-item.result (derivation_of c.in_ok-part.part)
    (taken-more c.args.leaves.now c.loop-leaf.leaf-index c.leaf-item.result c.loop-leaf-test.true c.leaf-item.is)
    (ap (map derivation_of) c.in_ok-push.ensures.ok ∙ map-append derivation_of c.loop-leaf.parts.items (c.in_ok-part.part ∷ []))
    c.loop-leaf.invariant c.in_ok-part.ensures

pub returns : goal.returns
returns c =
    subst (λ (ls : List Leaf). AreParts c.args.graft.now (map derivation_of c.args.firsts.now) ls
    (map derivation_of c.loop-leaf.parts.items))
    (take_all c.loop-leaf.leaf-index c.args.leaves.now c.loop-leaf-test.false) c.loop-leaf.invariant
