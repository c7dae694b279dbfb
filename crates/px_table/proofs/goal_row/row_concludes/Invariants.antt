use Rattle.std.proofs.Common.{◌≡◌, List, map, take}
use Rattle.px_terms.specs.declared.atom.Atom.{Atom}
use Rattle.px_table.specs.Choices.{atom_by}
use Rattle.px_table.specs.Conclusions.{AreConclusions}
use Rattle.px_table.proofs.goal_row.row_concludes.Given as goal

abbrev pub invariant-loop-k : goal.invariant-loop-k
invariant-loop-k l =
    (atoms : List Atom) → AreConclusions l.axioms atoms l.row → map (atom_by l.params l.goal atoms) (take l.k l.goal) ≡ take l.k atoms
