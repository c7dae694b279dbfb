use Rattle.std.proofs.Common.{◌≡◌, ◌-◌, ◌^◌, take, sum_by}
use Rattle.std.specs.Prelude.{min}
use Rattle.px_base.specs.Bounds.{u64_max}
use Rattle.px_replay.specs.FreshOf.{row_fresh}
use Rattle.px_replay.proofs.counting.count_rows.Given as goal

abbrev pub invariant-loop-row : goal.invariant-loop-row
invariant-loop-row l = l.count ≡ min (sum_by row_fresh (take l.row-index l.rows)) u64_max
