use Rattle.px_session.proofs.WorkedAnswers.{worked_demo}
use Rattle.px_session.proofs.laws.worked_demo.Goals as goal

pub returns : goal.returns
returns c = worked_demo
