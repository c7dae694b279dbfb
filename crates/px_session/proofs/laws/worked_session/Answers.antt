use Rattle.px_session.proofs.WorkedAnswers.{worked_session}
use Rattle.px_session.proofs.laws.worked_session.Goals as goal

pub returns : goal.returns
returns c = worked_session
