use Rattle.std.proofs.Common.{[], map, ap, ◌∙◌}
use Rattle.px_proof.specs.declared.proof.Proof.{Proof}
use Rattle.std.specs.Prelude.{List}
use Rattle.px_proof.specs.declared.proof.Leaf.{Leaf}
use Rattle.px_proof.specs.Derivation.{leaves_of}
use Rattle.px_table.specs.declared.mark.Mark.{Mark}
use Rattle.px_table.proofs.KernelSteps.{leaves-more}
use Rattle.px_proof.specs.ProofTerm.{derivation_of}
use Rattle.px_table.specs.MarkLaws.{row_marks-put}
use Rattle.px_table.specs.Marks.{mark_eq, mark_of, row_leaves}
use Rattle.px_table.specs.Once.{put_each}
use Rattle.std.proofs.lemmas.List.{take_all}
use Rattle.px_table.proofs.building.marks_of_row.Goals as goal

pub loop-proof-preserved : goal.loop-proof-preserved
loop-proof-preserved c =
    c.in_ok-put_leaves.ensures
    ∙ ap (λ (ls : List Leaf). put_each mark_eq c.loop-proof.marks.keys (map (mark_of c.args.number) ls))
    (c.deref.ensures.value ∙ c.in_ok-found.ensures)
    ∙ ap (λ (l : List Mark). put_each mark_eq l (map (mark_of c.args.number) (leaves_of (derivation_of c.proof-item.result))))
    c.loop-proof.invariant
    ∙ leaves-more c.args.number c.args.proofs.now c.loop-proof.proof-index c.proof-item.result c.proof-item.is c.loop-proof-test.true

pub returns : goal.returns
returns c =
    c.loop-proof.invariant
    ∙ ap (λ (ps : List Proof). put_each mark_eq [] (map (mark_of c.args.number) (row_leaves (map derivation_of ps))))
    (take_all c.loop-proof.proof-index c.args.proofs.now c.loop-proof-test.false)
    ∙ row_marks-put c.args.number (map derivation_of c.args.proofs.now)
