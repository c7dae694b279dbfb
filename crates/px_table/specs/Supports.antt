-- Supports: proofs that carry the steps of a plan to its goal, from the atoms of a model and from what the steps add.
use Rattle.std.specs.Prelude.{◌≡◌, ℕ, List, [], ◌∷◌, ◌++◌, length, map, All, Contains}
use Rattle.std.specs.List.{AllZip}
use Rattle.px_terms.specs.declared.atom.Atom.{Atom}
use Rattle.px_terms.specs.declared.clause.Clause.{Clause}
use Rattle.px_terms.specs.declared.instance.OpInst.{OpInst}
use Rattle.px_terms.specs.declared.problem.Problem.{Problem}
use Rattle.px_terms.specs.declared.term.Term.{Term}
use Rattle.px_terms.specs.Language.{IsObject}
use Rattle.px_terms.specs.Operators.{precondition}
use Rattle.px_terms.specs.Substitution.{substitute_atom, variables_from}
use Rattle.px_terms.specs.Validity.{IsGroundInstanceOf}
use Rattle.px_proof.specs.Derivation.{Derivation, leaves_of, leaf_atoms}
use Rattle.px_proof.specs.Literals.{positive_of}
use Rattle.px_proof.specs.Proves.{Proves, from_atoms}
use Rattle.px_table.specs.Marks.{IsNamed, IsKept, marks_from}

-- the first variables
abbrev pub variables : ℕ → List Term
variables count = variables_from 0 count

-- the derivation proves the atom under the empty path, without gaps, from the atoms of its own leaves, and only such terms
-- stand in the atom, in the leaves and in what the steps choose
pub record IsProofOf (IsTerm : Term → Type 0) (axioms : List Clause) (atom : Atom) (d : Derivation) : Type 0 where
  pub proves : Proves (from_atoms IsTerm (leaf_atoms (leaves_of d))) axioms [] (positive_of atom) d
  pub terms : All IsTerm atom.args

-- a proof for each of the atoms, in order
abbrev pub ProvesEachOf : (Term → Type 0) → List Clause → List Atom → List Derivation → Type 0
ProvesEachOf IsTerm axioms atoms row = AllZip (IsProofOf IsTerm axioms) atoms row

-- a proof for each atom of the goal under some terms for its own variables, which follow the parameters
abbrev pub ProvesGoal : (Term → Type 0) → List Clause → ℕ → List Atom → ℕ → List Derivation → Type 0
ProvesGoal IsTerm axioms params goal goal_variable_count row =
    (chosen : List Term) × (length chosen ≡ goal_variable_count) × ProvesEachOf IsTerm axioms
    (map (substitute_atom (variables params ++ chosen)) goal) row

-- row by row, the proofs of each step's precondition, and at the end those of the goal
abbrev pub RowsProve : (Term → Type 0) → Problem → ℕ → List OpInst → List Atom → ℕ → List (List Derivation) → Type 0
RowsProve IsTerm problem params [] goal goal_variable_count [] = ⊥
RowsProve IsTerm problem params [] goal goal_variable_count (row ∷ []) = ProvesGoal IsTerm problem.axioms params goal goal_variable_count row
RowsProve IsTerm problem params [] goal goal_variable_count (row ∷ second ∷ rows) = ⊥
RowsProve IsTerm problem params (inst ∷ steps) goal goal_variable_count [] = ⊥
RowsProve IsTerm problem params (inst ∷ steps) goal goal_variable_count (row ∷ rows) =
    ProvesEachOf IsTerm problem.axioms (precondition problem inst) row × RowsProve IsTerm problem params steps goal goal_variable_count rows

-- The rows support the steps and the goal from the atoms. The steps are instances of the problem's operators, over any
-- objects, whatever the sorts: that the steps fit is said beside this. The rows prove each precondition and the goal, over
-- objects. Each fact that they rest on is one of the atoms, or an add of a step before its row that the leaf names, and no
-- step in between deletes it.
pub record Supports (problem : Problem) (atoms : List Atom) (steps : List OpInst) (goal : List Atom) (goal_variable_count : ℕ)
    (rows : List (List Derivation)) : Type 0 where
  pub instances : All (IsGroundInstanceOf problem) steps
  pub prove : RowsProve IsObject problem 0 steps goal goal_variable_count rows
  pub named : All (IsNamed problem steps) (marks_from 1 rows)
  pub given : All (λ mark. mark.column ≡ 0 → Contains atoms mark.atom) (marks_from 1 rows)
  pub kept : All (IsKept problem steps 1) (marks_from 1 rows)
