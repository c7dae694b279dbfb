use Rattle.std.proofs.Common.{arith}
use Rattle.px_table.proofs.prefix.is_kept_within.Goals as goal

pub returns : goal.returns
returns c = (λ yes _. c.is_kept.ensures.0 yes, λ kept. c.is_kept.ensures.1 (kept (omega arith)))
