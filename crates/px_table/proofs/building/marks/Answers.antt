use Rattle.std.proofs.Common.{◌+◌, ◌++◌, map, ap, ◌∙◌}
use Rattle.std.specs.Prelude.{List}
use Rattle.px_proof.specs.declared.proof.Proof.{Proof}
use Rattle.px_proof.specs.ProofTerm.{derivation_of}
use Rattle.px_table.specs.declared.mark.Mark.{Mark}
use Rattle.px_table.specs.Marks.{row_marks}
use Rattle.px_table.proofs.KernelSteps.{rows-more}
use Rattle.px_table.proofs.building.marks.Goals as goal

pub loop-k-preserved : goal.loop-k-preserved
loop-k-preserved c =
    c.in_ok-append.ensures
    ∙ ap (λ (l : List Mark). c.loop-k.made.items ++ l)
    (c.in_ok-found.ensures
    ∙ ap (λ (ps : List Proof). row_marks (c.loop-k.k + 1) (map derivation_of ps)) c.proofs.ensures)
    ∙ ap (λ (l : List Mark). l ++ row_marks (c.loop-k.k + 1) (map derivation_of c.index-rows-k.result)) c.loop-k.invariant
    ∙ rows-more c.args.rows.now c.loop-k.k c.index-rows-k.result c.index-rows-k.is c.loop-k-test.true
