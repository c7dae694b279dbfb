use Rattle.px_entries.specs.Few.{RowsHaveFew}
use Rattle.px_base.proofs.Loops.{AllBefore}
use Rattle.px_entries.proofs.limiting.tables_have_few.Given as goal

abbrev pub invariant-loop-table : goal.invariant-loop-table
invariant-loop-table l = AllBefore (RowsHaveFew l.problem) l.tables l.table-index
