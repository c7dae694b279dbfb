use Rattle.px_rooms.proofs.Runs.{actions-are-runs}
use Rattle.px_rooms.proofs.laws.actions_are_runs.Goals as goal

pub returns : goal.returns
returns c = actions-are-runs
