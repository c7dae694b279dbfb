use Rattle.px_demo.proofs.WorkedOut.{worked_demo}
use Rattle.px_demo.proofs.laws.worked_demo.Goals as goal

pub returns : goal.returns
returns c = worked_demo
