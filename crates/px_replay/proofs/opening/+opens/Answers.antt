use Rattle.std.proofs.Common.{rules, ◌≡◌, ◌∙◌, ◌+◌, ◌++◌, ◌∷◌, [], List, map, take, length, sum_by, ap, sym, arith}
use Rattle.std.proofs.lemmas.List.{map-append}
use Rattle.std.proofs.lemmas.List.Sums.{sum_by_more}
use Rattle.px_proof.specs.declared.proof.Proof.TheViews.{the_lemmas}
use Rattle.px_terms.specs.declared.term.Term.{Term}
use Rattle.px_proof.specs.declared.proof.Proof.{Proof}
use Rattle.px_proof.specs.Derivation.{Derivation, derivations, step}
use Rattle.px_proof.specs.ProofTerm.{derivation_of}
use Rattle.px_terms.specs.Substitution.{variables_from}
use Rattle.px_replay.specs.FreshOf.{fresh_of_proof}
use Rattle.px_replay.specs.FreshVariables.{fresh_in}
use Rattle.px_replay.specs.Opened.{add_at, opened_row}
use Rattle.px_replay.specs.Replay.{opened}
use Rattle.px_proof.specs.LayerLaws.{derivation_of-step}
use Rattle.px_replay.proofs.OpenSteps.{all_fresh-sum, derivations-opened, opened_row-more}
use Rattle.px_replay.proofs.opening.+opens.Goals as goal

pub open_each-loop-proof-preserved : goal.open_each-loop-proof-preserved
open_each-loop-proof-preserved t c =
    let named = add_at c.args.problem.now c.args.steps.now in
    let before = opened_row named c.args.next.now (map derivation_of (take c.loop-proof.proof-index c.args.proofs.now)) in
    let sum = sum_by fresh_of_proof (take c.loop-proof.proof-index c.args.proofs.now) in
    record {
      made =
          ap (map derivation_of) c.in_ok-push.ensures.ok ∙ map-append derivation_of c.loop-proof.made.items (c.in_ok-one.one ∷ [])
          ∙ ap (λ (l : List Derivation). l ++ derivation_of c.in_ok-one.one ∷ []) c.loop-proof.invariant.made
          ∙ ap (λ (d : Derivation). before ++ d ∷ [])
          (c.in_ok-one.ensures.proof ∙ ap (λ n. opened named n (derivation_of c.proof-item.result)) c.loop-proof.invariant.next
          ∙ ap (λ (p : Proof). opened named (c.args.next.now + sum) (derivation_of p)) c.proof-item.is)
          ∙ sym (opened_row-more named c.args.next.now c.loop-proof.proof-index c.args.proofs.now c.proof-item.result
          c.loop-proof-test.true);
      next =
          omega (
            arith,
            c.in_ok-one.ensures.next,
            c.loop-proof.invariant.next,
            sum_by_more fresh_of_proof c.args.proofs.now c.loop-proof.proof-index c.proof-item.result c.loop-proof-test.true,
            ap fresh_of_proof c.proof-item.is,
          );
    }

pub open_proof-open_each-requires : goal.open_proof-open_each-requires
open_proof-open_each-requires t c =
    let is = ap derivation_of c.in-Step.is ∙ derivation_of-step c.in-Step.clause c.in-Step.theta c.in-Step.place c.in-Step.subs in
    let fresh = ap fresh_in is in
    let sum = all_fresh-sum c.in-Step.subs in (
      search (rules, the_lemmas),
      (
        c.requires.problem,
        (
          c.requires.schemas,
          omega (
            arith,
            c.requires.room,
            fresh,
            sum,
            ap length c.as_slice.ensures,
            ap (sum_by fresh_of_proof) c.as_slice-in-Step.ensures,
          ),
        ),
      ),
    )

pub open_proof-returns-in_ok-parts-in-Step-clause-next : goal.open_proof-returns-in_ok-parts-in-Step-clause-next
open_proof-returns-in_ok-parts-in-Step-clause-next t c =
    let is = ap derivation_of c.in-Step.is ∙ derivation_of-step c.in-Step.clause c.in-Step.theta c.in-Step.place c.in-Step.subs in
    let fresh = ap fresh_in is in
    let sum = all_fresh-sum c.in-Step.subs in
    omega (
      arith,
      c.in_ok-parts-in-Step.ensures.next,
      fresh,
      sum,
      ap length c.as_slice.ensures,
      ap (sum_by fresh_of_proof) c.as_slice-in-Step.ensures,
    )

pub open_proof-returns-in_ok-parts-in-Step-clause-proof : goal.open_proof-returns-in_ok-parts-in-Step-clause-proof
open_proof-returns-in_ok-parts-in-Step-clause-proof t c =
    let named = add_at c.args.problem.now c.args.steps.now in
    let is = ap derivation_of c.in-Step.is ∙ derivation_of-step c.in-Step.clause c.in-Step.theta c.in-Step.place c.in-Step.subs in
    let theta : c.from_vec.result ≡ variables_from c.args.next.now (length c.in-Step.theta) =
    c.from_vec.ensures ∙ c.in_ok-fresh-in-Step.ensures
    ∙ ap (λ (l : List Term). variables_from c.args.next.now (length l)) c.as_slice.ensures in
    let subs : map derivation_of c.from_vec-in-Step.result
    ≡ opened_row named (c.args.next.now + length c.in-Step.theta) (map derivation_of c.in-Step.subs) =
    ap (map derivation_of) c.from_vec-in-Step.ensures ∙ c.in_ok-parts-in-Step.ensures.proofs
    ∙ ap (λ (l : List Term). opened_row named (c.args.next.now + length l) (map derivation_of c.as_slice-in-Step.result.now))
    c.as_slice.ensures
    ∙ ap (λ (l : List Proof). opened_row named (c.args.next.now + length c.in-Step.theta) (map derivation_of l)) c.as_slice-in-Step.ensures
    in
    let parts =
    ap derivations subs ∙ derivations-opened named (c.args.next.now + length c.in-Step.theta) (map derivation_of c.in-Step.subs) in
    derivation_of-step c.in-Step.clause c.from_vec.result c.in-Step.place c.from_vec-in-Step.result
    ∙ (λ i. step c.in-Step.clause (theta i) c.in-Step.place (parts i)) ∙ sym (ap (opened named c.args.next.now) is)
