use Rattle.px_totality.proofs.EndingRuns.{runs_end}
use Rattle.px_totality.proofs.laws.runs_end.Goals as goal

pub returns : goal.returns
returns g c = runs_end g.W.World.leaves c.traces_exist.ensures
