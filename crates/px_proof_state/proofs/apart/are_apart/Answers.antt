use Rattle.px_proof_state.proofs.ApartLemmas.{place-apart}
use Rattle.px_proof_state.proofs.apart.are_apart.Goals as goal

pub returns-then-are_terms_apart : goal.returns-then-are_terms_apart
returns-then-are_terms_apart c =
    λ is_apart. place-apart c.args.a.now c.args.b.now c.args-xs.result.now c.args-ys.result.now c.args-xs.ensures.value
    c.args-ys.ensures.value c.loop-place.place _ _ c.loop-place-test.true c.if-xs-ys.false
    (c.are_terms_apart.ensures c.if-are_terms_apart.true)
