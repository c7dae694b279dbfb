use Rattle.std.proofs.Common.{refl}
use Rattle.px_replay.proofs.pairing.make_equal.Goals as goal

pub unreachable-requires : goal.unreachable-requires
unreachable-requires c = c.in-Err.ensures.clash.0 refl c.requires.solved.0 c.requires.solved.1 c.requires.solved.2
