use Rattle.px_pursue.proofs.One.{pursuits_are_one}
use Rattle.px_pursue.proofs.laws.pursuits_are_one.Goals as goal

pub returns : goal.returns
returns g c = pursuits_are_one g.W.World.leaves
