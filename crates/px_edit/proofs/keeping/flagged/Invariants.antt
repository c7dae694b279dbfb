use Rattle.px_edit.specs.Keeping.{AreFlagged}
use Rattle.px_edit.proofs.keeping.flagged.Given as goal

abbrev pub invariant-loop-k : goal.invariant-loop-k
invariant-loop-k l = AreFlagged l.flags l.k l.numbers.items
