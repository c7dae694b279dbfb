use Rattle.std.proofs.Common.{◌≡◌, take, map}
use Rattle.px_proof.specs.Substitution.{derivation_under}
use Rattle.px_table.specs.Tables.{rows_of}
use Rattle.px_edit.proofs.building.named_rows.Given as goal

abbrev pub invariant-loop-row : goal.invariant-loop-row
invariant-loop-row l = rows_of l.made.items ≡ map (map (derivation_under l.names)) (rows_of (take l.row-index l.rows))
