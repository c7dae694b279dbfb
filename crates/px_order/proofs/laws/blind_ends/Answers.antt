use Rattle.px_order.proofs.LawProofs.{blind_ends}
use Rattle.px_order.proofs.laws.blind_ends.Goals as goal

pub returns : goal.returns
returns g c = blind_ends g.S.Search.space g.S.Search.aim
