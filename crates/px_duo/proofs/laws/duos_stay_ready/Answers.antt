use Rattle.px_duo.proofs.Readying.{duos_stay_ready}
use Rattle.px_duo.proofs.laws.duos_stay_ready.Goals as goal

pub returns : goal.returns
returns g c = duos_stay_ready g.W.World.leaves
