use Rattle.std.proofs.Common.{◌≡◌, ◌-◌, ◌^◌, take}
use Rattle.std.specs.Prelude.{min}
use Rattle.px_base.specs.Bounds.{u64_max}
use Rattle.px_replay.specs.Opened.{step_variables}
use Rattle.px_replay.proofs.counting.count_steps.Given as goal

abbrev pub invariant-loop-inst : goal.invariant-loop-inst
invariant-loop-inst l = l.count ≡ min (step_variables (take l.inst-index l.steps)) u64_max
