use Rattle.px_session.proofs.Kept.{sessions_are_kept}
use Rattle.px_session.proofs.laws.sessions_are_kept.Goals as goal

pub returns : goal.returns
returns c = sessions_are_kept
