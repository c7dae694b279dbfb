use Rattle.px_planex.proofs.OneRun.{runs_are_one}
use Rattle.px_planex.proofs.laws.runs_are_one.Goals as goal

pub returns : goal.returns
returns g c = runs_are_one g.W.World.leaves
