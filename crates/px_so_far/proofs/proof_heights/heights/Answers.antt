use Rattle.std.proofs.Common.{rules}
use Rattle.std.specs.Prelude.{◌^◌}
use Rattle.px_so_far.proofs.Common.{◌-◌, ◌<◌, arith, drop, length, length-drop}
use Rattle.px_so_far.proofs.ProofHeights.{heights-below}
use Rattle.px_so_far.proofs.proof_heights.heights.Goals as goal

pub add_height-requires : goal.add_height-requires
add_height-requires c =
    let low : length c.args.parts.now < 2 ^ 63 = search rules in
    heights-below (drop (length c.args.parts.now - c.loop-done.done) c.args.parts.now) c.loop-done.made.items
    (omega (arith, length-drop (length c.args.parts.now - c.loop-done.done) c.args.parts.now, low)) c.loop-done.invariant.made
