use Rattle.px_order.proofs.LawProofs.{one_stop}
use Rattle.px_order.proofs.laws.one_stop.Goals as goal

pub returns : goal.returns
returns g c = one_stop g.S.Search.space g.S.Search.aim
