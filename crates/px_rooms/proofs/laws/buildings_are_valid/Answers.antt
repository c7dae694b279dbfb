use Rattle.px_rooms.proofs.Valid.{buildings_are_valid}
use Rattle.px_rooms.proofs.laws.buildings_are_valid.Goals as goal

pub returns : goal.returns
returns c = buildings_are_valid
