use Rattle.std.proofs.Common.{List, [], ◌∷◌, map, ap, ◌∙◌, subst, sym}
use Rattle.std.proofs.lemmas.List.{map-append, take_all}
use Rattle.std.specs.List.{AllZip}
use Rattle.std.specs.Prelude.{take}
use Rattle.px_base.specs.ListLaws.{All-at}
use Rattle.px_proof.specs.declared.proof.Proof.{Proof}
use Rattle.px_proof.specs.PlaceLaws.{Contains-mapped}
use Rattle.px_proof.specs.ProofTerm.{derivation_of}
use Rattle.px_proof.specs.Substitution.{derivation_under}
use Rattle.px_support.specs.Grafted.{IsGraftBy, IsGraftableBy}
use Rattle.px_support.proofs.GraftSteps.{mapped-more}
use Rattle.px_support.proofs.Lists.{zip-grown}
use Rattle.px_support.proofs.grafts.grafted_row.Goals as goal

pub grafted_proof-requires-clause-proof : goal.grafted_proof-requires-clause-proof
grafted_proof-requires-clause-proof c =
    All-at (IsGraftableBy c.args.graft.now) (map derivation_of c.args.proofs.now) (derivation_of c.proof-item.result) c.requires.proofs
    (Contains-mapped derivation_of c.args.proofs.now c.proof-item.result
    (c.loop-proof.proof-index, c.loop-proof-test.true, sym c.proof-item.is))

pub loop-proof-preserved : goal.loop-proof-preserved
loop-proof-preserved c =
    let under = derivation_under c.args.graft.now.terms.now in
    let prefix = map derivation_of (take c.loop-proof.proof-index c.args.proofs.now) in
    zip-grown (IsGraftBy c.args.graft.now (map derivation_of c.args.firsts.now)) _ _ _ _ (under (derivation_of c.proof-item.result))
    (derivation_of c.in_ok-new.new)
    (ap (map under) (mapped-more derivation_of c.args.proofs.now c.loop-proof.proof-index c.proof-item.result c.loop-proof-test.true
    c.proof-item.is) ∙ map-append under prefix (derivation_of c.proof-item.result ∷ []))
    (ap (map derivation_of) c.in_ok-push.ensures.ok ∙ map-append derivation_of c.loop-proof.made.items (c.in_ok-new.new ∷ []))
    c.loop-proof.invariant c.in_ok-new.ensures

pub returns : goal.returns
returns c =
    let grafts = AllZip (IsGraftBy c.args.graft.now (map derivation_of c.args.firsts.now)) in
    let under = map (derivation_under c.args.graft.now.terms.now) in
    subst (λ (row : List Proof). grafts (under (map derivation_of c.args.proofs.now)) (map derivation_of row)) (sym c.from_proofs.ensures)
    (subst (λ (ps : List Proof). grafts (under (map derivation_of ps)) (map derivation_of c.loop-proof.made.items))
    (take_all c.loop-proof.proof-index c.args.proofs.now c.loop-proof-test.false) c.loop-proof.invariant)
