use Rattle.px_order.proofs.LawProofs.{blind_needs_no_agenda}
use Rattle.px_order.proofs.laws.blind_needs_no_agenda.Goals as goal

pub returns : goal.returns
returns g c = blind_needs_no_agenda g.S.Search.space
