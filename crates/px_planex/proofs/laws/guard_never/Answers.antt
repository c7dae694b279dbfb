use Rattle.px_planex.proofs.Guarding.{guard_never}
use Rattle.px_planex.proofs.laws.guard_never.Goals as goal

pub returns : goal.returns
returns c = guard_never
