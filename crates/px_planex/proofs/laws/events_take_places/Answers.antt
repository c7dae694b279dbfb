use Rattle.px_planex.proofs.Places.{events_take_places}
use Rattle.px_planex.proofs.laws.events_take_places.Goals as goal

pub returns : goal.returns
returns g c = events_take_places g.W.World.leaves
