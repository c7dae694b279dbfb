use Rattle.px_rooms.proofs.Actions.{edits_add_one}
use Rattle.px_rooms.proofs.laws.room_edits_add_one.Goals as goal

pub returns : goal.returns
returns c = edits_add_one
