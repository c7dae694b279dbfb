use Rattle.px_rooms.proofs.Guarding.{refusals-allowed}
use Rattle.px_rooms.proofs.laws.refusals_are_allowed.Goals as goal

pub returns : goal.returns
returns c = refusals-allowed
