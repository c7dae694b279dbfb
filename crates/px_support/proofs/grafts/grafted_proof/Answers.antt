use Rattle.std.proofs.Common.{◌≡◌, ◌∙◌, List, ap, length, map, rules, sym, subst}
use Rattle.std.proofs.lemmas.List.Elements.{filter_from_retain}
use Rattle.std.specs.Prelude.{◌==◌, All, Contains, IfOk}
use Rattle.px_proof.specs.declared.proof.Leaf.{Leaf}
use Rattle.px_proof.specs.declared.proof.Proof.{Proof}
use Rattle.px_proof.specs.Derivation.{Derivation, leaves_of}
use Rattle.px_proof.specs.Grafting.{first_leaves, grafted}
use Rattle.px_proof.specs.ProofTerm.{derivation_of}
use Rattle.px_proof.specs.Substitution.{derivation_under}
use Rattle.px_support.specs.Grafted.{AreParts}
use Rattle.px_support.proofs.GraftSteps.{if_graft, parts-count}
use Rattle.px_support.proofs.grafts.grafted_proof.Goals as goal

pub parts_for-requires-clause-leaves : goal.parts_for-requires-clause-leaves
parts_for-requires-clause-leaves c =
    let picked =
    filter_from_retain _ (λ (leaf : Leaf). leaf.column == 0) (λ f x b g h. search (rules, h)) _ _ _ c.retain.ensures.filtered in
    subst (All (λ (leaf : Leaf). Contains c.args.graft.now.formula.now leaf.atom))
    (sym (c.deref.ensures.value ∙ picked ∙ ap first_leaves (c.in_ok-given.ensures ∙ ap leaves_of c.in_ok-under.ensures.value)))
    c.requires.proof.given

pub graft-requires-clause-parts : goal.graft-requires-clause-parts
graft-requires-clause-parts c =
    let picked =
    filter_from_retain _ (λ (leaf : Leaf). leaf.column == 0) (λ f x b g h. search (rules, h)) _ _ _ c.retain.ensures.filtered in
    ap length c.deref-2.ensures.value
    ∙ parts-count c.args.graft.now (map derivation_of c.args.firsts.now) c.deref.result.now c.in_ok-parts.parts.items
    c.in_ok-parts.ensures
    ∙ ap length (c.deref.ensures.value ∙ picked ∙ ap first_leaves c.in_ok-given.ensures)

pub returns : goal.returns
returns c =
    let picked =
    filter_from_retain _ (λ (leaf : Leaf). leaf.column == 0) (λ f x b g h. search (rules, h)) _ _ _ c.retain.ensures.filtered in
    let under = derivation_under c.args.graft.now.terms.now (derivation_of c.args.proof.now) in
    let firsts = map derivation_of c.args.firsts.now in
    if_graft c.args.graft.now firsts under (map derivation_of c.deref-2.result.now) c.graft.result
    (subst (λ (ps : List Proof). AreParts c.args.graft.now firsts (first_leaves (leaves_of under)) (map derivation_of ps))
    (sym c.deref-2.ensures.value)
    (subst (λ (ls : List Leaf). AreParts c.args.graft.now firsts ls (map derivation_of c.in_ok-parts.parts.items))
    (c.deref.ensures.value ∙ picked ∙ ap first_leaves (c.in_ok-given.ensures ∙ ap leaves_of c.in_ok-under.ensures.value))
    c.in_ok-parts.ensures))
    (subst (λ (d : Derivation). IfOk c.graft.result
    (λ new. derivation_of new ≡ grafted c.args.graft.now.shift (map derivation_of c.deref-2.result.now) d)) c.in_ok-under.ensures.value
    c.graft.ensures.value)
