use Rattle.px_rooms.proofs.Guarding.{facts-few}
use Rattle.px_rooms.proofs.laws.facts_are_few.Goals as goal

pub returns : goal.returns
returns c = facts-few
