use Rattle.px_session.proofs.ToldRuns.{told_runs}
use Rattle.px_session.proofs.laws.told_runs.Goals as goal

pub returns : goal.returns
returns c = told_runs
