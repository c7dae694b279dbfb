use Rattle.px_edit.proofs.Flags.{AreFlaggedFrom}
use Rattle.px_edit.proofs.keeping.flag_columns.Given as goal

abbrev pub invariant-loop-at : goal.invariant-loop-at
invariant-loop-at l = AreFlaggedFrom l.initial.flags l.flags l.marks l.at

abbrev pub decreases-loop-at : goal.decreases-loop-at
decreases-loop-at l = l.at
