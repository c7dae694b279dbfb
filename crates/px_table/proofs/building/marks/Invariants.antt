use Rattle.std.proofs.Common.{◌≡◌, take}
use Rattle.px_table.specs.Marks.{marks_from}
use Rattle.px_table.specs.Tables.{rows_of}
use Rattle.px_table.proofs.building.marks.Given as goal

abbrev pub invariant-loop-k : goal.invariant-loop-k
invariant-loop-k l = l.made.items ≡ marks_from 1 (rows_of (take l.k l.rows))
