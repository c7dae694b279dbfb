use Rattle.std.proofs.Common.{◌≡◌, ◌-◌, ◌^◌, take}
use Rattle.std.specs.Prelude.{min}
use Rattle.px_base.specs.Bounds.{u64_max}
use Rattle.px_replay.specs.Opened.{goal_objects}
use Rattle.px_replay.proofs.counting.count_goal.Given as goal

abbrev pub invariant-loop-atom : goal.invariant-loop-atom
invariant-loop-atom l = l.count ≡ min (goal_objects (take l.atom-index l.goal)) u64_max
