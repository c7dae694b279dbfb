use Rattle.std.proofs.Common.{◌≡◌, map, take}
use Rattle.px_table.specs.Kernels.{instance_under}
use Rattle.px_search.proofs.effects.steps_with.Given as goal

abbrev pub invariant-loop-step : goal.invariant-loop-step
invariant-loop-step l = l.made.items ≡ map (instance_under l.sigma) (take l.step-index l.steps)
