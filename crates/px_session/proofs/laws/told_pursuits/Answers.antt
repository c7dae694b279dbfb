use Rattle.px_session.proofs.ToldPursuits.{told_pursuits}
use Rattle.px_session.proofs.laws.told_pursuits.Goals as goal

pub returns : goal.returns
returns c = told_pursuits
