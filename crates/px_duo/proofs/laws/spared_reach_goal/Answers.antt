use Rattle.px_duo.proofs.Reaching.{spared_reach_goal}
use Rattle.px_duo.proofs.laws.spared_reach_goal.Goals as goal

pub returns : goal.returns
returns g c = spared_reach_goal g.W.World.leaves
