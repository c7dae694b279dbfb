use Rattle.std.proofs.Common.{◌≡◌, ◌++◌, take}
use Rattle.std.specs.Prelude.{string_bytes}
use Rattle.px_printer.specs.Rows.{mark_lines}
use Rattle.px_printer.proofs.table_text.push_marks.Given as goal

abbrev pub invariant-loop-mark : goal.invariant-loop-mark
invariant-loop-mark l = string_bytes l.text ≡ string_bytes l.initial.text
    ++ mark_lines l.names l.table.params (take l.mark-index l.table.marks) l.row
