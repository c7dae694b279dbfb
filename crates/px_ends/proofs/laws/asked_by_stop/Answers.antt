use Rattle.px_ends.proofs.ByStop.{asked_by_stop}
use Rattle.px_ends.proofs.laws.asked_by_stop.Goals as goal

pub returns : goal.returns
returns c = asked_by_stop
