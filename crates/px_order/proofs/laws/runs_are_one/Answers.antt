use Rattle.px_order.proofs.LawProofs.{runs_are_one}
use Rattle.px_order.proofs.laws.runs_are_one.Goals as goal

pub returns : goal.returns
returns g c = runs_are_one g.S.Search.space
