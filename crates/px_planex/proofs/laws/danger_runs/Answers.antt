use Rattle.px_planex.proofs.DangerRunning.{danger_runs}
use Rattle.px_planex.proofs.laws.danger_runs.Goals as goal

pub returns : goal.returns
returns c = danger_runs
