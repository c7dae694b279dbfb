use Rattle.std.proofs.Common.{◌≡◌, List, drop}
use Rattle.px_terms.specs.declared.atom.Atom.{Atom}
use Rattle.px_table.specs.Choices.{choice_of}
use Rattle.px_table.specs.Conclusions.{AreConclusions}
use Rattle.px_table.proofs.goal_row.choice.Given as goal

abbrev pub invariant-loop-k : goal.invariant-loop-k
invariant-loop-k l =
    (atoms : List Atom) → AreConclusions l.axioms atoms l.row
    → choice_of l.variable (drop l.k l.goal) (drop l.k atoms) ≡ choice_of l.variable l.goal atoms
