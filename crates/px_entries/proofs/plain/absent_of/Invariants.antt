use Rattle.std.proofs.Common.{◌⊎◌, [], take}
use Rattle.std.specs.Prelude.{◌↔◌, Contains}
use Rattle.px_terms.specs.declared.atom.Atom.{Atom}
use Rattle.px_entries.specs.Plain.{IsAbsent}
use Rattle.px_entries.proofs.plain.absent_of.Given as goal

abbrev pub invariant-loop-atom : goal.invariant-loop-atom
invariant-loop-atom l =
    (q : Atom) → Contains l.absent.atoms q
    ↔ (Contains {X = Atom} [] q ⊎ (Contains (take l.atom-index l.formula) q × IsAbsent l.problem l.model.atoms q))
