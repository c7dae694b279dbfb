use Rattle.std.proofs.Common.{◌≡◌, ◌-◌, [], map, take}
use Rattle.std.specs.Prelude.{slice_index_or}
use Rattle.px_table.specs.Tables.{rows_of}
use Rattle.px_edit.specs.Editing.{in_columns, new_number}
use Rattle.px_edit.proofs.parts.kept_rows.Given as goal

abbrev pub invariant-loop-place : goal.invariant-loop-place
invariant-loop-place l = rows_of l.made.items
    ≡ map (λ k. map (in_columns (new_number l.kept)) (slice_index_or (rows_of l.table.proofs) (k - 1) [])) (take l.place l.kept)
