use Rattle.px_pursue.proofs.Few.{searches_are_few}
use Rattle.px_pursue.proofs.laws.searches_are_few.Goals as goal

pub returns : goal.returns
returns g c = searches_are_few g.W.World.leaves
