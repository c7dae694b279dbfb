use Rattle.px_world.proofs.EditLaws.{edits_add_one}
use Rattle.px_world.proofs.laws.atom_edits_add_one.Goals as goal

pub returns : goal.returns
returns c = edits_add_one
