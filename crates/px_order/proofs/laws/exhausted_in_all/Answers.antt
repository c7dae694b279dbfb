use Rattle.px_order.proofs.LawProofs.{exhausted_in_all}
use Rattle.px_order.proofs.laws.exhausted_in_all.Goals as goal

pub returns : goal.returns
returns g c = exhausted_in_all g.S.Search.space g.S.Search.aim
