use Rattle.std.proofs.Common.{◌≡◌, ◌++◌}
use Rattle.px_table.proofs.building.append.Given as goal

-- the marks so far and those that are left are all marks
abbrev pub invariant-loop-mark : goal.invariant-loop-mark
invariant-loop-mark l = l.marks.items ++ l.mark-iterator ≡ l.initial.marks.items ++ l.more.keys
