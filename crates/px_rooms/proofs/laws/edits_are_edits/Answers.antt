use Rattle.px_rooms.proofs.Actions.{edits-follow}
use Rattle.px_rooms.proofs.laws.edits_are_edits.Goals as goal

pub returns : goal.returns
returns c = edits-follow
