use Rattle.px_session.proofs.ToldDuos.{told_duos}
use Rattle.px_session.proofs.laws.told_duos.Goals as goal

pub returns : goal.returns
returns c = told_duos
