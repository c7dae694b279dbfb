use Rattle.std.proofs.Common.{refl, inl, inr, arith}
use Rattle.px_prover.proofs.patterns.after_fact.Goals as goal

pub returns-then-is_recent-clause-passed : goal.returns-then-is_recent-clause-passed
returns-then-is_recent-clause-passed c =
    inr (inl (omega arith), refl, (c.in_ok-general.general, c.in_ok-general.ensures, c.is_recent.ensures c.if-is_recent.true))
