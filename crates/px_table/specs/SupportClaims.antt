-- What supports give, over any objects, and what they refuse.
use Rattle.std.specs.Prelude.{◌≡◌, ◌≢◌, ℕ, ◌<◌, ◌≤◌, ◌+◌, Some, List, slice_get, All, Contains}
use Rattle.px_terms.specs.declared.atom.Atom.{Atom}
use Rattle.px_terms.specs.declared.instance.OpInst.{OpInst}
use Rattle.px_terms.specs.declared.problem.Problem.{Problem}
use Rattle.px_terms.specs.Operators.{IsDeleted, adds, schema_of}
use Rattle.px_terms.specs.Plans.{Carries}
use Rattle.px_terms.specs.Validity.{HasArity}
use Rattle.px_proof.specs.declared.proof.Leaf.{Leaf}
use Rattle.px_proof.specs.Derivation.{Derivation, leaves_of, leaf_atoms}
use Rattle.px_table.specs.Marks.{row_leaves, step_at}
use Rattle.px_table.specs.Supports.{Supports}
use Rattle.px_table.specs.Tables.{AreOfProblem}

-- the problem, with another number of objects
abbrev pub with_object_count : Problem → ℕ → Problem
with_object_count problem count = record problem { objects = count }

-- each predicate in the leaves of the rows is the problem's, with its number of arguments
abbrev pub HaveArities : Problem → List (List Derivation) → Type 0
HaveArities problem rows = All (All (λ d. All (HasArity problem) (leaf_atoms (leaves_of d)))) rows

-- A support carries its steps to its goal, over whatever objects: of the problem with as many objects as its rows are over. There is
-- always a number that is enough.
pub record SupportsCarry : Type 0 where
  pub over : (problem : Problem) (count : ℕ) (atoms : List Atom) (steps : List OpInst) (goal : List Atom) (goal_variable_count : ℕ)
      (rows : List (List Derivation))
      → Supports problem atoms steps goal goal_variable_count rows → AreOfProblem (with_object_count problem count) rows
      → Carries (with_object_count problem count) atoms steps goal_variable_count goal
  pub enough : (problem : Problem) (atoms : List Atom) (steps : List OpInst) (goal : List Atom) (goal_variable_count : ℕ)
      (rows : List (List Derivation))
      → Supports problem atoms steps goal goal_variable_count rows → HaveArities problem rows
      → (least : ℕ) × ((count : ℕ) → least ≤ count → Carries (with_object_count problem count) atoms steps goal_variable_count goal)

-- the leaf is one of the proofs in the row of that number, counted from 1
pub record IsLeafOf (rows : List (List Derivation)) (row : ℕ) (leaf : Leaf) : Type 0 where
  pub place : ℕ
  pub number : row ≡ place + 1
  pub proofs : List Derivation
  pub row_at : slice_get rows place ≡ Some proofs
  pub is_leaf : Contains (row_leaves proofs) leaf

-- No support has these rows with this leaf, where the leaf names its own row or a later one, where it names the initial model but has
-- another index than 0 or isn't given, where the step that it names doesn't add its atom at the index, or where a step after that one and
-- before the row deletes the atom.
pub record RefusesLeaf (problem : Problem) (atoms : List Atom) (steps : List OpInst) (goal : List Atom) (goal_variable_count : ℕ)
    (rows : List (List Derivation)) (row : ℕ) (leaf : Leaf) : Type 0 where
  pub own_column : row ≤ leaf.column → ¬ Supports problem atoms steps goal goal_variable_count rows
  pub other_index : leaf.column ≡ 0 → leaf.index ≢ 0 → ¬ Supports problem atoms steps goal goal_variable_count rows
  pub not_given : leaf.column ≡ 0 → ¬ Contains atoms leaf.atom → ¬ Supports problem atoms steps goal goal_variable_count rows
  pub not_added : (inst : OpInst) → step_at steps leaf.column ≡ Some inst → slice_get (adds problem inst) leaf.index ≢ Some leaf.atom
      → ¬ Supports problem atoms steps goal goal_variable_count rows
  pub deleted_since : (k : ℕ) (inst : OpInst) → leaf.column < k → k < row → step_at steps k ≡ Some inst
      → IsDeleted (schema_of problem inst) inst leaf.atom
      → ¬ Supports problem atoms steps goal goal_variable_count rows

abbrev pub SupportsRefuse : Type 0
SupportsRefuse = (problem : Problem) (atoms : List Atom) (steps : List OpInst) (goal : List Atom) (goal_variable_count : ℕ)
    (rows : List (List Derivation)) (row : ℕ) (leaf : Leaf)
    → IsLeafOf rows row leaf → RefusesLeaf problem atoms steps goal goal_variable_count rows row leaf
