use Rattle.std.proofs.Common.{◌≡◌, map, take}
use Rattle.px_table.specs.Kernels.{instance_under}
use Rattle.px_entries.proofs.macro_steps.steps_with.Given as goal

abbrev pub invariant-loop-place : goal.invariant-loop-place
invariant-loop-place l = l.steps.items ≡ map (instance_under l.sigma) (take l.place l.table.steps)
