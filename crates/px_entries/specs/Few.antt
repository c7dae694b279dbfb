-- Where few shapes of what is asked of entries exist.
use Rattle.std.specs.Prelude.{◌≤◌, ◌==◌, ◌&&◌, ℕ, List, [], ◌∷◌, length, map, filter, All}
use Rattle.px_table.specs.declared.mark.Mark.{Mark}
use Rattle.px_table.specs.declared.table.Table.{Table}
use Rattle.px_terms.specs.declared.atom.Atom.{Atom}
use Rattle.px_terms.specs.declared.problem.Problem.{Problem}
use Rattle.px_gaps.specs.Bounds.{HasFewShapes}

-- formulas of the predicates of these atoms have few
abbrev pub HasFew : Problem → List Atom → Type 0
HasFew problem atoms = HasFewShapes problem (map (λ (atom : Atom). atom.pred) atoms)

-- each of the atoms has few by itself
abbrev pub EachHasFew : Problem → List Atom → Type 0
EachHasFew problem atoms = All (λ (atom : Atom). HasFew problem (atom ∷ [])) atoms

-- what a row needs of the initial model, without objects for the parameters
abbrev pub initial_patterns : Table → ℕ → List Atom
initial_patterns table row = map (λ (mark : Mark). mark.atom)
    (filter (λ (mark : Mark). (mark.row == row) && (mark.column == 0)) table.marks)

-- what each row needs of the initial model has few
abbrev pub RowsHaveFew : Problem → Table → Type 0
RowsHaveFew problem table = (row : ℕ) → row ≤ length table.steps → HasFew problem (initial_patterns table row)
