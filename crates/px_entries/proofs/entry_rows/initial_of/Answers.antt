use Rattle.std.proofs.Common.{◌∙◌, List, ap, refl}
use Rattle.std.proofs.lemmas.List.{take_all}
use Rattle.std.specs.Prelude.{◌==◌, ◌&&◌, filter, map}
use Rattle.px_table.specs.Kernels.{atom_under}
use Rattle.px_table.specs.declared.mark.Mark.{Mark}
use Rattle.px_entries.proofs.LeftSteps.{picked-next}
use Rattle.px_entries.proofs.entry_rows.initial_of.Goals as goal

pub loop-mark-preserved : goal.loop-mark-preserved
loop-mark-preserved c =
    picked-next (λ (mark : Mark). (mark.row == c.args.row) && (mark.column == 0)) c.as_slice-marks.result.now c.loop-mark.mark-index
    c.mark-item.result c.loop-mark-test.true c.mark-item.is
    (λ (mark : Mark). atom_under c.args.sigma.now mark.atom) c.loop-mark.atoms.items c.loop-mark.invariant
    ((c.mark-item.result.row == c.args.row) && (c.mark-item.result.column == 0)) c.push_initial.new.atoms.items
    (atom_under c.args.sigma.now c.mark-item.result.atom) refl refl c.in_ok-push_initial.ensures

pub returns : goal.returns
returns c =
    c.loop-mark.invariant
    ∙ ap (λ (l : List Mark). map (λ (mark : Mark). atom_under c.args.sigma.now mark.atom)
    (filter (λ (mark : Mark). (mark.row == c.args.row) && (mark.column == 0)) l))
    (take_all c.loop-mark.mark-index c.as_slice-marks.result.now c.loop-mark-test.false ∙ c.as_slice-marks.ensures)
