use Rattle.std.proofs.Common.{◌≡◌, take}
use Rattle.std.specs.Prelude.{◌==◌, ◌&&◌, filter, map}
use Rattle.px_table.specs.declared.mark.Mark.{Mark}
use Rattle.px_entries.proofs.limiting.initial_patterns.Given as goal

abbrev pub invariant-loop-mark : goal.invariant-loop-mark
invariant-loop-mark l =
    l.atoms.items ≡ map (λ (mark : Mark). mark.atom)
    (filter (λ (mark : Mark). (mark.row == l.row) && (mark.column == 0)) (take l.mark-index l.marks))
