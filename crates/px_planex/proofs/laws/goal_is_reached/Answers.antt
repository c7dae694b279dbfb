use Rattle.px_planex.proofs.Alternating.{goal_is_reached}
use Rattle.px_planex.proofs.laws.goal_is_reached.Goals as goal

pub returns : goal.returns
returns g c = goal_is_reached g.W.World.leaves
