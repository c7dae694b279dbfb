-- How many atoms an edit leaves.
use Rattle.std.proofs.Common.{◌≤◌, ◌+◌, List, length, arith}
use Rattle.px_terms.specs.declared.atom.Atom.{Atom}
use Rattle.px_ops.specs.ModelLaws.{with_atom-length, without_atom-length}
use Rattle.px_world.specs.declared.edits.AtomEdit.{AtomEdit}
use Rattle.px_world.specs.declared.edits.AtomEdit.TheVariants.{Add, Remove}
use Rattle.px_world.specs.Worlds.{EditsAddOne, edited}

pub edits_add_one : EditsAddOne edited
edits_add_one (Add atom) atoms = with_atom-length atom atoms
edits_add_one (Remove atom) atoms = let fewer = without_atom-length atom atoms in omega (arith, fewer)
