use Rattle.px_session.proofs.KeptRooms.{rooms_are_kept}
use Rattle.px_session.proofs.laws.rooms_are_kept.Goals as goal

pub returns : goal.returns
returns c = rooms_are_kept
