use Rattle.std.proofs.Common.{◌≡◌, map, take}
use Rattle.px_edit.specs.Editing.{wanted_atom}
use Rattle.px_edit.proofs.parts.wanted_atoms.Given as goal

abbrev pub invariant-loop-place : goal.invariant-loop-place
invariant-loop-place l = l.made.items ≡ map (wanted_atom l.problem l.table) (take l.place l.wanted)
