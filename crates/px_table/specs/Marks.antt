-- Marks: which facts the rows of a table rest on, and where each comes from (Fikes, Hart and Nilsson 1972).
use Rattle.std.specs.Prelude.{◌≡◌, ℕ, ◌<◌, ◌≤◌, ◌==◌, ◌&&◌, Bool, Option, Some, None, List, [], ◌∷◌, ◌++◌, map, slice_get}
use Rattle.std.proofs.Common.{zero, suc}
use Rattle.std.specs.Bool.{Decides}
use Rattle.std.specs.List.{flat_map}
use Rattle.px_terms.specs.declared.instance.OpInst.{OpInst}
use Rattle.px_terms.specs.declared.problem.Problem.{Problem}
use Rattle.px_terms.specs.Operators.{IsDeleted, adds, schema_of}
use Rattle.px_terms.specs.Order.{atom_eq}
use Rattle.px_proof.specs.declared.proof.Leaf.{Leaf}
use Rattle.px_proof.specs.Derivation.{Derivation, leaves_of}
use Rattle.px_table.specs.contracts.mark.MarkPartialEq.TheImpl as mark_equality
use Rattle.px_table.specs.declared.mark.Mark.{Mark}
use Rattle.px_table.specs.Once.{each_once}

-- whether two marks have the same atom, row, column and index
abbrev pub mark_eq : Mark → Mark → Bool
mark_eq first second = atom_eq first.atom second.atom && (first.row == second.row &&
    (first.column == second.column && first.index == second.index))

-- `==` of marks computes this, and it is equality
pub record MarksAreCompared : Type 0 where
  pub computes : (first second : Mark) → (mark_equality.ghosts).eq first second ≡ mark_eq first second
  pub equality : (first second : Mark) → Decides (mark_eq first second) (first ≡ second)

-- the mark that a leaf makes in the row of that number
abbrev pub mark_of : ℕ → Leaf → Mark
mark_of row leaf = record { atom = leaf.atom; row = row; column = leaf.column; index = leaf.index }

-- the leaves of the proofs from left to right
abbrev pub row_leaves : List Derivation → List Leaf
row_leaves = flat_map leaves_of

-- the marks of a row: its leaves in order, each kept once by atom, column and index
abbrev pub row_marks : ℕ → List Derivation → List Mark
row_marks row proofs = each_once mark_eq (map (mark_of row) (row_leaves proofs))

-- the marks of the rows in order, where the first row has that number
abbrev pub marks_from : ℕ → List (List Derivation) → List Mark
marks_from row [] = []
marks_from row (proofs ∷ rows) = row_marks row proofs ++ marks_from (suc row) rows

-- the step of that number, counted from 1
abbrev pub step_at : List OpInst → ℕ → Option OpInst
step_at steps zero = None
step_at steps (suc k) = slice_get steps k

-- the mark's column is before its row. Column 0 is the initial model, and its index is 0. A later column is the step of
-- that number, and the atom stands in its add list at the index
pub record IsNamed (problem : Problem) (steps : List OpInst) (mark : Mark) : Type 0 where
  pub earlier : mark.column < mark.row
  pub initial : mark.column ≡ 0 → mark.index ≡ 0
  pub added : 0 < mark.column → (inst : OpInst) × (step_at steps mark.column ≡ Some inst)
      × (slice_get (adds problem inst) mark.index ≡ Some mark.atom)

-- no step numbered `first` or higher that comes after the mark's column and before its row deletes its atom
abbrev pub IsKept : Problem → List OpInst → ℕ → Mark → Type 0
IsKept problem steps first mark =
    (k : ℕ) (inst : OpInst) → first ≤ k → mark.column < k → k < mark.row → step_at steps k ≡ Some inst
    → ¬ IsDeleted (schema_of problem inst) inst mark.atom
