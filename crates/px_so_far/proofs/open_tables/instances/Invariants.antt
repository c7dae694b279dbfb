-- What the loop of `instances` in src/open_tables.rt keeps true.
use Rattle.px_so_far.proofs.Common.{◌≡◌, map, take}
use Rattle.px_so_far.specs.SoFarViews.{step_view}
use Rattle.px_so_far.proofs.open_tables.instances.Given as goal

abbrev pub invariant-loop-step : goal.invariant-loop-step
invariant-loop-step l = l.made.items ≡ map step_view (take l.step-index l.steps)
