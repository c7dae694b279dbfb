use Rattle.px_session.proofs.WorkedRoomRuns.{worked_rooms}
use Rattle.px_session.proofs.laws.worked_rooms.Goals as goal

pub returns : goal.returns
returns c = worked_rooms
