-- Proof of the goal that `rooms_suffice` of src/laws.rt leaves open.
use Rattle.px_run.proofs.Rooms.{rooms_suffice}
use Rattle.px_run.proofs.laws.rooms_suffice.Goals as goal

pub returns : goal.returns
returns c = rooms_suffice
