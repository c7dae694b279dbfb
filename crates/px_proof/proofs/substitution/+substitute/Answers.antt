use Rattle.std.proofs.Common.{rules, ◌≡◌, length, map, take, ap, sym, ◌∙◌, subst, arith}
use Rattle.std.specs.Prelude.{All}
use Rattle.std.proofs.Math.Seq.{take-length}
use Rattle.px_terms.specs.Language.{IsVariableBelow}
use Rattle.px_proof.specs.declared.proof.Proof.{Proof}
use Rattle.px_proof.specs.declared.proof.Proof.TheViews.{the_lemmas}
use Rattle.px_proof.specs.Derivation.{Derivation, derivations, terms_of, all_terms_of}
use Rattle.px_proof.specs.ProofTerm.{derivation_of}
use Rattle.px_proof.specs.Substitution.{derivation_under}
use Rattle.px_proof.proofs.Inside.{terms_of_one, under_each}
use Rattle.px_proof.specs.PlaceLaws.{All-prefix, All-back}
use Rattle.px_proof.specs.LayerLaws.{derivation_of-step}
use Rattle.px_proof.proofs.substitution.+substitute.Goals as goal

pub substitute_all-substitute_terms-requires : goal.substitute_all-substitute_terms-requires
substitute_all-substitute_terms-requires t c =
    let is = ap derivation_of c.in-Step.is ∙ derivation_of-step c.in-Step.clause c.in-Step.theta c.in-Step.place c.in-Step.subs in
    let all = subst (λ (d : Derivation). All (IsVariableBelow (length c.args.map.now)) (terms_of d)) is c.requires in
    rw c.as_slice.ensures (All-prefix (IsVariableBelow (length c.args.map.now)) c.in-Step.theta
    (all_terms_of (derivations (map derivation_of c.in-Step.subs))) all)

pub substitute_all-substitute_each-requires : goal.substitute_all-substitute_each-requires
substitute_all-substitute_each-requires t c =
    let is = ap derivation_of c.in-Step.is ∙ derivation_of-step c.in-Step.clause c.in-Step.theta c.in-Step.place c.in-Step.subs in
    let all = subst (λ (d : Derivation). All (IsVariableBelow (length c.args.map.now)) (terms_of d)) is c.requires in
    let parts : All (IsVariableBelow (length c.args.map.now))
    (all_terms_of (derivations (map derivation_of c.as_slice-in-Step.result.now))) =
    rw c.as_slice-in-Step.ensures (All-back (IsVariableBelow (length c.args.map.now)) c.in-Step.theta
    (all_terms_of (derivations (map derivation_of c.in-Step.subs))) all) in
    (search (rules, the_lemmas), parts)

pub substitute_each-substitute_all-requires : goal.substitute_each-substitute_all-requires
substitute_each-substitute_all-requires t c =
    let one : All (IsVariableBelow (length c.args.map.now)) (terms_of (derivation_of c.proof-item.result)) =
    subst (λ (p : Proof). All (IsVariableBelow (length c.args.map.now)) (terms_of (derivation_of p))) (sym c.proof-item.is)
    (terms_of_one (IsVariableBelow (length c.args.map.now)) c.args.proofs.now c.loop-proof.proof-index c.proof-item.result
    c.loop-proof-test.true c.requires) in
    (search (rules, the_lemmas), one)

pub substitute_each-returns : goal.substitute_each-returns
substitute_each-returns t c =
    let at_end : c.loop-proof.proof-index ≡ length c.args.proofs.now =
    omega (arith, c.loop-proof-test.false, c.loop-proof.auto.proof-index-end) in
    let whole : take c.loop-proof.proof-index c.args.proofs.now ≡ c.args.proofs.now =
    ap (λ n. take n c.args.proofs.now) at_end ∙ take-length c.args.proofs.now in
    ap derivations (c.loop-proof.invariant ∙ ap (λ xs. map (derivation_under c.args.map.now) (map derivation_of xs)) whole)
    ∙ sym (under_each c.args.map.now (map derivation_of c.args.proofs.now))
