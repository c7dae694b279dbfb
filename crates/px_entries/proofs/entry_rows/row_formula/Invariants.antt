use Rattle.std.proofs.Common.{◌≡◌, map, take}
use Rattle.std.specs.Prelude.{◌==◌, ◌&&◌, filter}
use Rattle.px_table.specs.declared.mark.Mark.{Mark}
use Rattle.px_terms.specs.Substitution.{substitute_atom}
use Rattle.px_entries.proofs.entry_rows.row_formula.Given as goal

abbrev pub invariant-loop-mark : goal.invariant-loop-mark
invariant-loop-mark l =
    l.atoms.items ≡ map (λ (mark : Mark). substitute_atom l.terms mark.atom)
    (filter (λ (mark : Mark). (mark.row == l.row) && (mark.column == 0)) (take l.mark-index l.marks))
