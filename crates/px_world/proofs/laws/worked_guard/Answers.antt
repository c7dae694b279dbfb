use Rattle.px_world.proofs.GuardLaws.{worked_guard}
use Rattle.px_world.proofs.laws.worked_guard.Goals as goal

pub returns : goal.returns
returns c = worked_guard
