use Rattle.std.proofs.Common.{◌≡◌, ◌++◌, ◌+◌, drop}
use Rattle.std.specs.Prelude.{string_bytes}
use Rattle.px_printer.specs.Rows.{step_rows}
use Rattle.px_printer.proofs.table_text.push_rows.Given as goal

abbrev pub invariant-loop-index : goal.invariant-loop-index
invariant-loop-index l =
    string_bytes l.text ++ step_rows l.names l.table.params l.table.marks (l.index + 1) (drop l.index l.table.steps)
    ≡ string_bytes l.initial.text ++ step_rows l.names l.table.params l.table.marks 1 l.table.steps
