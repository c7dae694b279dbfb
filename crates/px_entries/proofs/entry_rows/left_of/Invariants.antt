use Rattle.std.proofs.Common.{◌≡◌, take}
use Rattle.std.specs.Prelude.{not, filter}
use Rattle.px_terms.specs.AtomSets.{atom_set}
use Rattle.px_terms.specs.Operators.{deletes}
use Rattle.px_terms.specs.declared.atom.Atom.{Atom}
use Rattle.px_entries.proofs.entry_rows.left_of.Given as goal

abbrev pub invariant-loop-atom : goal.invariant-loop-atom
invariant-loop-atom l = l.left.atoms ≡ atom_set (filter (λ (atom : Atom). not (deletes l.problem l.inst atom)) (take l.atom-index l.held))
