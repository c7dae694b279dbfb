use Rattle.px_so_far.proofs.Common.{◌+◌, arith}
use Rattle.std.specs.Prelude.{reverse}
use Rattle.px_so_far.proofs.ProofHeights.{taken-next}
use Rattle.px_so_far.proofs.proof_heights.take_highest.Goals as goal

pub loop-taken-preserved : goal.loop-taken-preserved
loop-taken-preserved c =
    let both =
    taken-next (reverse c.args.heights.now.items) c.loop-taken.taken (c.loop-taken.taken + 1) c.loop-taken.highest
    c.pop_highest-highest.result
    c.loop-taken.heights.items c.pop_highest-highest.new.heights.items (omega arith) c.loop-taken.invariant.best c.loop-taken.invariant.rest
    c.pop_highest-highest.ensures.highest c.pop_highest-highest.ensures.rest in
    record { best = both.0; rest = both.1 }
