use Rattle.px_order.proofs.LawProofs.{all_is_found}
use Rattle.px_order.proofs.laws.all_is_found.Goals as goal

pub returns : goal.returns
returns g c = all_is_found g.S.Search.space
