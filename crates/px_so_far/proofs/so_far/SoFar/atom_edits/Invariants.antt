use Rattle.px_so_far.proofs.Common.{◌≡◌, map, take, atom_edit_of, declared_of, signed_view}
use Rattle.px_so_far.proofs.so_far.SoFar.atom_edits.Given as goal

abbrev pub invariant-loop-atom : goal.invariant-loop-atom
invariant-loop-atom l = l.edits.items ≡ map (λ x. atom_edit_of (declared_of l.self) (signed_view x)) (take l.atom-index l.atoms)
