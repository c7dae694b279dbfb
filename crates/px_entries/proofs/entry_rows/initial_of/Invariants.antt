use Rattle.std.proofs.Common.{◌≡◌, take}
use Rattle.std.specs.Prelude.{◌==◌, ◌&&◌, filter, map}
use Rattle.px_table.specs.Kernels.{atom_under}
use Rattle.px_table.specs.declared.mark.Mark.{Mark}
use Rattle.px_entries.proofs.entry_rows.initial_of.Given as goal

abbrev pub invariant-loop-mark : goal.invariant-loop-mark
invariant-loop-mark l =
    l.atoms.items ≡ map (λ (mark : Mark). atom_under l.sigma mark.atom)
    (filter (λ (mark : Mark). (mark.row == l.row) && (mark.column == 0)) (take l.mark-index l.marks))
