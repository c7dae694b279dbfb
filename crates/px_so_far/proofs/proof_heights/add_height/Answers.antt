use Rattle.px_so_far.proofs.Common.{◌<◌, arith}
use Rattle.std.specs.Prelude.{◌^◌}
use Rattle.px_so_far.proofs.ProofHeights.{top-below}
use Rattle.px_so_far.proofs.proof_heights.add_height.Goals as goal

pub overflow_add-height : goal.overflow_add-height
overflow_add-height c =
    let low : c.take_highest.result < 2 ^ 63 = rw c.take_highest.ensures.highest (top-below _ _ c.requires) in omega (arith, low)
