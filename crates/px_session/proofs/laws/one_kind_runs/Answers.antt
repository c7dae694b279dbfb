use Rattle.px_session.proofs.Lifted.{one_kind_runs}
use Rattle.px_session.proofs.laws.one_kind_runs.Goals as goal

pub returns : goal.returns
returns c = one_kind_runs
