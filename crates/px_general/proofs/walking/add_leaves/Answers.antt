use Rattle.std.proofs.Common.{◌∙◌, ◌++◌, List, ap, arith}
use Rattle.px_proof.specs.declared.proof.Proof.{Proof}
use Rattle.px_general.proofs.WalkSteps.{collected, collected_all, row_leaf_terms_of, rows-leaf_terms}
use Rattle.px_general.proofs.walking.add_leaves.Goals as goal

pub loop-row-preserved : goal.loop-row-preserved
loop-row-preserved c =
    collected row_leaf_terms_of c.args.rows.now c.loop-row.row-index c.row-item.result c.args.walked.now.items c.loop-row.walked.items _
    c.loop-row-test.true c.row-item.is c.loop-row.invariant
    (c.in_ok-add_row_leaves.ensures ∙ ap (λ (ps : List Proof). c.loop-row.walked.items ++ row_leaf_terms_of ps) c.proofs.ensures)

pub returns : goal.returns
returns c =
    collected_all row_leaf_terms_of c.args.rows.now c.loop-row.row-index c.args.walked.now.items c.loop-row.walked.items
    (omega (arith, c.loop-row-test.false)) c.loop-row.invariant
    ∙ ap (λ l. c.args.walked.now.items ++ l) (rows-leaf_terms c.args.rows.now)
