use Rattle.px_order.proofs.LawProofs.{agenda_goes_on}
use Rattle.px_order.proofs.laws.agenda_goes_on.Goals as goal

pub returns : goal.returns
returns g c = agenda_goes_on g.S.Search.space
