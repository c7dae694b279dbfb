use Rattle.px_planex.proofs.OneTrace.{traces_are_one}
use Rattle.px_planex.proofs.laws.traces_are_one.Goals as goal

pub returns : goal.returns
returns g c = traces_are_one g.W.World.leaves
