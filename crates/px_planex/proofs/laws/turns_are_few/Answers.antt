use Rattle.px_planex.proofs.TurnBound.{turns_are_few}
use Rattle.px_planex.proofs.laws.turns_are_few.Goals as goal

pub returns : goal.returns
returns g c = turns_are_few g.W.World.leaves
