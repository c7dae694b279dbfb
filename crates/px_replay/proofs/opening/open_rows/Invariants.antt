use Rattle.std.proofs.Common.{◌≡◌, ◌+◌, take, sum_by}
use Rattle.px_table.specs.Tables.{rows_of}
use Rattle.px_replay.specs.FreshOf.{row_fresh}
use Rattle.px_replay.specs.Opened.{add_at, opened_rows}
use Rattle.px_replay.proofs.opening.open_rows.Given as goal

abbrev pub invariant-loop-row : goal.invariant-loop-row
invariant-loop-row l = record {
  made : rows_of l.made.items ≡ opened_rows (add_at l.problem l.steps) l.initial.next (rows_of (take l.row-index l.rows));
  next : l.next ≡ l.initial.next + sum_by row_fresh (take l.row-index l.rows);
}
