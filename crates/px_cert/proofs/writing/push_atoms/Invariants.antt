use Rattle.std.proofs.Common.{◌≡◌, ◌++◌, take}
use Rattle.std.specs.Prelude.{string_bytes}
use Rattle.std.specs.List.{flat_map}
use Rattle.px_cert.specs.Lines.{atom_item}
use Rattle.px_cert.proofs.writing.push_atoms.Given as goal

abbrev pub invariant-loop-atom : goal.invariant-loop-atom
invariant-loop-atom l = string_bytes l.text ≡ string_bytes l.initial.text ++ flat_map atom_item (take l.atom-index l.atoms)
