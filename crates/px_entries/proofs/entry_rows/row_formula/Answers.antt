use Rattle.std.proofs.Common.{◌∙◌, List, ap}
use Rattle.std.proofs.lemmas.List.{take_all}
use Rattle.std.specs.Prelude.{◌==◌, ◌&&◌, filter, map}
use Rattle.px_table.specs.declared.mark.Mark.{Mark}
use Rattle.px_terms.specs.Substitution.{substitute_atom}
use Rattle.px_entries.proofs.LeftSteps.{picked-next}
use Rattle.px_entries.proofs.entry_rows.row_formula.Goals as goal

pub loop-mark-preserved : goal.loop-mark-preserved
loop-mark-preserved c =
    picked-next (λ (mark : Mark). (mark.row == c.args.row) && (mark.column == 0)) c.as_slice-marks.result.now c.loop-mark.mark-index
    c.mark-item.result c.loop-mark-test.true c.mark-item.is
    (λ (mark : Mark). substitute_atom c.args.terms.now mark.atom) c.loop-mark.atoms.items c.loop-mark.invariant
    c.is_initial-is_wanted.result c.push_wanted.new.atoms.items c.apply-atom.result c.is_initial-is_wanted.ensures c.apply-atom.ensures
    c.in_ok-push_wanted.ensures

pub returns : goal.returns
returns c =
    c.loop-mark.invariant
    ∙ ap (λ (l : List Mark). map (λ (mark : Mark). substitute_atom c.args.terms.now mark.atom)
    (filter (λ (mark : Mark). (mark.row == c.args.row) && (mark.column == 0)) l))
    (take_all c.loop-mark.mark-index c.as_slice-marks.result.now c.loop-mark-test.false ∙ c.as_slice-marks.ensures)
