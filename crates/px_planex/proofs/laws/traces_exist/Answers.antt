use Rattle.px_planex.proofs.Existing.{traces_exist}
use Rattle.px_planex.proofs.laws.traces_exist.Goals as goal

pub returns : goal.returns
returns g c = traces_exist g.W.World.leaves
