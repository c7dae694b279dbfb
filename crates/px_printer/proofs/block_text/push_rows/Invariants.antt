use Rattle.std.proofs.Common.{◌≡◌, ◌++◌, take}
use Rattle.std.specs.List.{flat_map}
use Rattle.std.specs.Prelude.{string_bytes}
use Rattle.px_table.specs.Tables.{rows_of}
use Rattle.px_printer.specs.Blocks.{proof_line}
use Rattle.px_printer.proofs.block_text.push_rows.Given as goal

abbrev pub invariant-loop-row : goal.invariant-loop-row
invariant-loop-row l = string_bytes l.text ≡ string_bytes l.initial.text
    ++ flat_map (proof_line l.names l.spelling) (rows_of (take l.row-index l.rows))
