use Rattle.std.proofs.Common.{◌≡◌, ◌↔◌, ◌≤◌, suc, length, drop}
use Rattle.px_table.specs.Marks.{marks_from}
use Rattle.px_table.specs.Tables.{rows_of}
use Rattle.px_table.proofs.mark_list.marks_are_leaves.Given as goal

-- the marks that are left, and the rows that are left
abbrev pub invariant-loop-k : goal.invariant-loop-k
invariant-loop-k l = record {
  within : l.at ≤ length l.marks;
  rest : (drop l.at l.marks ≡ marks_from (suc l.k) (drop l.k (rows_of l.table.proofs))) ↔ (l.marks ≡ marks_from 1 (rows_of l.table.proofs));
}
