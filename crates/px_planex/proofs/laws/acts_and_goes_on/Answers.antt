use Rattle.px_planex.proofs.Progressing.{acts_and_goes_on}
use Rattle.px_planex.proofs.laws.acts_and_goes_on.Goals as goal

pub returns : goal.returns
returns g c = acts_and_goes_on g.W.World.leaves
