use Rattle.std.proofs.Common.{◌∙◌, ◌++◌, List, ap, arith}
use Rattle.px_proof.specs.declared.proof.Leaf.{Leaf}
use Rattle.px_general.specs.Naming.{args_of_leaves}
use Rattle.px_general.proofs.WalkSteps.{collected, collected_all, proof_leaf_terms, row-leaf_terms}
use Rattle.px_general.proofs.walking.add_row_leaves.Goals as goal

pub loop-proof-preserved : goal.loop-proof-preserved
loop-proof-preserved c =
    collected proof_leaf_terms c.args.proofs.now c.loop-proof.proof-index c.proof-item.result c.args.walked.now.items
    c.loop-proof.walked.items _ c.loop-proof-test.true c.proof-item.is c.loop-proof.invariant
    (c.in_ok-add_args.ensures ∙ ap (λ (leaves : List Leaf). c.loop-proof.walked.items ++ args_of_leaves leaves)
    (c.deref.ensures.value ∙ c.in_ok-found.ensures))

pub returns : goal.returns
returns c =
    collected_all proof_leaf_terms c.args.proofs.now c.loop-proof.proof-index c.args.walked.now.items c.loop-proof.walked.items
    (omega (arith, c.loop-proof-test.false)) c.loop-proof.invariant
    ∙ ap (λ l. c.args.walked.now.items ++ l) (row-leaf_terms c.args.proofs.now)
