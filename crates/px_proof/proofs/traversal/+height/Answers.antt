use Rattle.std.proofs.Common.{◌<◌, arith, subst}
use Rattle.px_proof.specs.declared.proof.Proof.{Proof}
use Rattle.px_proof.specs.Derivation.{height}
use Rattle.px_proof.specs.ProofTerm.{derivation_of}
use Rattle.px_proof.proofs.Inside.{highest, none_higher}
use Rattle.px_proof.proofs.traversal.+height.Goals as goal

pub is_one_higher_than-returns-then-higher_than : goal.is_one_higher_than-returns-then-higher_than
is_one_higher_than-returns-then-higher_than t c =
    let tall =
    subst (λ (p : Proof). c.args.limit < height (derivation_of p)) c.proof-item.is (c.higher_than.ensures.0 c.if-higher_than.true) in
    let most = highest c.args.proofs.now c.loop-proof.proof-index c.proof-item.result c.loop-proof-test.true in
    (λ _. omega (arith, tall, most), λ _. cc)

pub is_one_higher_than-returns : goal.is_one_higher_than-returns
is_one_higher_than-returns t c =
    let low =
    none_higher c.args.proofs.now c.args.limit (λ k d below. c.loop-proof.invariant k d (omega (arith, below, c.loop-proof-test.false)))
    in
    (λ yes. cc, λ tall. absurd (omega (arith, tall, low)))
