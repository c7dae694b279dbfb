use Rattle.std.specs.Prelude.{◌<◌, ℕ}
use Rattle.px_entries.specs.Few.{HasFew, initial_patterns}
use Rattle.px_entries.proofs.limiting.rows_have_few.Given as goal

abbrev pub invariant-loop-row : goal.invariant-loop-row
invariant-loop-row l = (row : ℕ) → row < l.row → HasFew l.problem (initial_patterns l.table row)
