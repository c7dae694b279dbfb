use Rattle.px_order.proofs.LawProofs.{blind_is_breadth}
use Rattle.px_order.proofs.laws.blind_is_breadth.Goals as goal

pub returns : goal.returns
returns g c = blind_is_breadth g.S.Search.space
