use Rattle.px_session.proofs.Undisturbed.{undisturbed_runs}
use Rattle.px_session.proofs.laws.undisturbed_runs.Goals as goal

pub returns : goal.returns
returns c = undisturbed_runs
