use Rattle.px_rooms.proofs.Belonging.{facts-are-atoms}
use Rattle.px_rooms.proofs.laws.facts_are_atoms.Goals as goal

pub returns : goal.returns
returns c = facts-are-atoms
