use Rattle.px_order.proofs.LawProofs.{nodes_stand_once}
use Rattle.px_order.proofs.laws.nodes_stand_once.Goals as goal

pub returns : goal.returns
returns g c = nodes_stand_once g.S.Search.space
