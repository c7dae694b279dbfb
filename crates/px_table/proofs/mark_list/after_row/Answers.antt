use Rattle.std.proofs.Common.{[], map, ap, ◌∙◌, subst}
use Rattle.std.specs.Prelude.{List}
use Rattle.px_proof.specs.declared.proof.Leaf.{Leaf}
use Rattle.px_proof.specs.ProofTerm.{derivation_of}
use Rattle.px_table.specs.declared.mark.Mark.{Mark}
use Rattle.px_table.specs.MarkLaws.{all_leaves-row, row_marks-put}
use Rattle.px_table.specs.Marks.{mark_eq, mark_of}
use Rattle.px_table.specs.Once.{IsPrefix, put_each}
use Rattle.px_table.proofs.mark_list.after_row.Goals as goal

pub returns : goal.returns
returns c =
    subst (λ (l : List Mark). IsPrefix c.args.marks.now l c.after_proofs.result)
    (ap (λ (ls : List Leaf). put_each mark_eq [] (map (mark_of c.args.row) ls)) (all_leaves-row (map derivation_of c.args.proofs.now))
    ∙ row_marks-put c.args.row (map derivation_of c.args.proofs.now))
    c.after_proofs.ensures
