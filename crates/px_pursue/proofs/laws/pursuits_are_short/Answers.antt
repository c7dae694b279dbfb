use Rattle.px_pursue.proofs.Short.{pursuits_are_short}
use Rattle.px_pursue.proofs.laws.pursuits_are_short.Goals as goal

pub returns : goal.returns
returns g c = pursuits_are_short g.W.World.leaves
