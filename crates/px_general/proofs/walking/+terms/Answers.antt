use Rattle.std.proofs.Common.{◌∙◌, ◌++◌, ap, sym, arith}
use Rattle.px_general.proofs.WalkSteps.{collected_all, each-terms, proof_terms}
use Rattle.px_general.proofs.walking.+terms.Goals as goal

pub add_each-returns : goal.add_each-returns
add_each-returns t c =
    collected_all proof_terms c.args.proofs.now c.loop-proof.proof-index c.args.walked.now.items c.loop-proof.walked.items
    (omega (arith, c.loop-proof-test.false)) c.loop-proof.invariant
    ∙ ap (λ l. c.args.walked.now.items ++ l) (sym (each-terms c.args.proofs.now))
