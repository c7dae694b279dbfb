use Rattle.px_match.specs.Keeping.{AreEmpty}
use Rattle.px_match.proofs.matcher.lists_of.Given as goal

abbrev pub invariant-loop-mark : goal.invariant-loop-mark
invariant-loop-mark l = AreEmpty l.room l.marks l.mark-index l.lists.items
