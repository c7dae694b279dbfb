use Rattle.std.proofs.Common.{◌≡◌, ◌++◌, take}
use Rattle.std.specs.Prelude.{flat_map}
use Rattle.px_table.specs.declared.mark.Mark.{Mark}
use Rattle.px_edit.proofs.walking.add_marks.Given as goal

abbrev pub invariant-loop-mark : goal.invariant-loop-mark
invariant-loop-mark l = l.walked.items ≡ l.initial.walked.items ++ flat_map (λ (mark : Mark). mark.atom.args) (take l.mark-index l.marks)
