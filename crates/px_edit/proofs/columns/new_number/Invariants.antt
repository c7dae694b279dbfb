use Rattle.std.proofs.Common.{◌≡◌, take}
use Rattle.px_edit.specs.Editing.{new_number}
use Rattle.px_edit.proofs.columns.new_number.Given as goal

abbrev pub invariant-loop-number : goal.invariant-loop-number
invariant-loop-number l = l.count ≡ new_number (take l.number-index l.kept) l.step
