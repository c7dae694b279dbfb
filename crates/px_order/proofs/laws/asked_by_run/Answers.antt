use Rattle.px_order.proofs.LawProofs.{asked_by_run}
use Rattle.px_order.proofs.laws.asked_by_run.Goals as goal

pub returns : goal.returns
returns g c = asked_by_run g.S.Search.space g.S.Search.aim
