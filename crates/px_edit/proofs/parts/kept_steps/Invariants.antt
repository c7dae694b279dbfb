use Rattle.std.proofs.Common.{◌≡◌, take}
use Rattle.px_edit.specs.Editing.{kept_of, no_step}
use Rattle.px_edit.proofs.parts.kept_steps.Given as goal

abbrev pub invariant-loop-place : goal.invariant-loop-place
invariant-loop-place l = l.made.items ≡ kept_of no_step (take l.place l.kept) l.table.steps
