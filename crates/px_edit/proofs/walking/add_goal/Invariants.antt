use Rattle.std.proofs.Common.{◌≡◌, ◌++◌, take}
use Rattle.px_table.specs.Parameters.{goal_terms}
use Rattle.px_edit.proofs.walking.add_goal.Given as goal

abbrev pub invariant-loop-atom : goal.invariant-loop-atom
invariant-loop-atom l = l.walked.items ≡ l.initial.walked.items ++ goal_terms (take l.atom-index l.goal)
