use Rattle.px_duo.proofs.Existing.{duo_traces_exist}
use Rattle.px_duo.proofs.laws.duo_traces_exist.Goals as goal

pub returns : goal.returns
returns g c = duo_traces_exist g.W.World.leaves c.traces_exist.ensures
