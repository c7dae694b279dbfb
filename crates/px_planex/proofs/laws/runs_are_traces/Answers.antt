use Rattle.px_planex.proofs.TracedRuns.{runs_are_traces}
use Rattle.px_planex.proofs.laws.runs_are_traces.Goals as goal

pub returns : goal.returns
returns g c = runs_are_traces g.W.World.leaves
