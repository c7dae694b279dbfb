use Rattle.std.proofs.Common.{◌≡◌, ◌-◌, ◌^◌, take}
use Rattle.std.specs.Prelude.{min}
use Rattle.px_base.specs.Bounds.{u64_max}
use Rattle.px_replay.specs.FreshOf.{row_fresh}
use Rattle.px_replay.proofs.counting.+counts.Given as goal

abbrev pub invariant-count_each-loop-proof : goal.invariant-count_each-loop-proof
invariant-count_each-loop-proof l = l.count ≡ min (row_fresh (take l.proof-index l.proofs)) u64_max
