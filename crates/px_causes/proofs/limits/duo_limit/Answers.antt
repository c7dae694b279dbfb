use Rattle.px_causes.proofs.FirstLimits.{three-limits}
use Rattle.px_causes.proofs.limits.duo_limit.Goals as goal

pub returns : goal.returns
returns c = rw (c.or-2.ensures, c.or.ensures, c.commands_over.ensures, c.any_outside.ensures, c.over.ensures) (three-limits _ _ _ _ _ _)
