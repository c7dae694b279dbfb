-- The rows of supports and tables: where they stand, what their leaves mark, and what they prove where their leaves hold.
use Rattle.std.specs.Prelude.{◌≡◌, ℕ, ◌+◌, Some, List, [], ◌∷◌, length, map, slice_get, All, Contains}
use Rattle.std.proofs.Common.{zero, suc, subst, arith}
use Rattle.std.proofs.lemmas.List.Elements.{All-map, All-cons, Contains-append_left, Contains-append_right}
use Rattle.px_base.specs.ListLaws.{All-each}
use Rattle.px_terms.specs.declared.atom.Atom.{Atom}
use Rattle.px_terms.specs.declared.clause.Clause.{Clause}
use Rattle.px_terms.specs.declared.instance.OpInst.{OpInst}
use Rattle.px_terms.specs.declared.problem.Problem.{Problem}
use Rattle.px_terms.specs.declared.term.Term.{Term}
use Rattle.px_terms.specs.Operators.{precondition}
use Rattle.px_proof.specs.declared.proof.Leaf.{Leaf}
use Rattle.px_proof.specs.Derivation.{Derivation, leaves_of, leaf_atoms}
use Rattle.px_proof.specs.PlaceLaws.{Contains-mapped}
use Rattle.px_table.specs.declared.mark.Mark.{Mark}
use Rattle.px_table.specs.MarkLaws.{mark_eq-decides}
use Rattle.px_table.specs.Marks.{mark_eq, mark_of, marks_from, row_leaves, row_marks}
use Rattle.px_table.specs.OnceLaws.{Contains-each_once}
use Rattle.px_table.specs.Supports.{IsProofOf, ProvesEachOf, ProvesGoal, RowsProve}

-- a row with the fact, whose leaves are marks of the row of that number
pub record HasRow (P : List Derivation → Type 0) (marks : List Mark) (r : ℕ) : Type 0 where
  pub row : List Derivation
  pub fact_of : P row
  pub marked : (leaf : Leaf) → Contains (row_leaves row) leaf → Contains marks (mark_of r leaf)

-- each leaf of a row makes a mark of it
pub first_row : (r : ℕ) (row : List Derivation) (rows : List (List Derivation)) (leaf : Leaf) → Contains (row_leaves row) leaf
    → Contains (marks_from r (row ∷ rows)) (mark_of r leaf)
first_row r row rows leaf has =
    Contains-append_left (row_marks r row) (marks_from (suc r) rows) (mark_of r leaf)
    (Contains-each_once mark_eq mark_eq-decides (map (mark_of r) (row_leaves row)) (mark_of r leaf)
    (Contains-mapped (mark_of r) (row_leaves row) leaf has))

-- a leaf of a row's proofs makes a mark of the row of that number
pub leaf_marked : (first k r : ℕ) (rows : List (List Derivation)) (row : List Derivation) (leaf : Leaf) → r ≡ first + k
    → slice_get rows k ≡ Some row
    → Contains (row_leaves row) leaf → Contains (marks_from first rows) (mark_of r leaf)
leaf_marked first k r [] row leaf e at has = absurd (cc)
leaf_marked first zero r (other ∷ rows) row leaf e at has =
    let here : row ≡ other = cc in
    let number : first ≡ r = omega arith in
    subst (λ n. Contains (marks_from first (other ∷ rows)) (mark_of n leaf)) number
    (first_row first other rows leaf (subst (λ (ds : List Derivation). Contains (row_leaves ds) leaf) here has))
leaf_marked first (suc k) r (other ∷ rows) row leaf e at has =
    Contains-append_right (row_marks first other) (marks_from (suc first) rows) (mark_of r leaf)
    (leaf_marked (suc first) k r rows row leaf (omega arith) at has)

later_row : (P : List Derivation → Type 0) (first r : ℕ) (row : List Derivation) (rows : List (List Derivation))
    → HasRow P (marks_from (suc first) rows) r → HasRow P (marks_from first (row ∷ rows)) r
later_row P first r row rows h =
    record {
      row = h.row;
      fact_of = h.fact_of;
      marked = λ leaf has. Contains-append_right (row_marks first row)
          (marks_from (suc first) rows) (mark_of r leaf) (h.marked leaf has);
    }

module _ (IsTerm : Term → Type 0) (problem : Problem) (params : ℕ) (goal : List Atom) (goal_variable_count : ℕ) where
  pub row_of_step : (first k r : ℕ) (inst : OpInst) (steps : List OpInst) (rows : List (List Derivation)) → r ≡ first + k
      → slice_get steps k ≡ Some inst
      → RowsProve IsTerm problem params steps goal goal_variable_count rows
      → HasRow (ProvesEachOf IsTerm problem.axioms (precondition problem inst)) (marks_from first rows) r
  row_of_step first k r inst [] rows e at h = absurd (cc)
  row_of_step first k r inst (o ∷ steps) [] e at h = absurd h
  row_of_step first zero r inst (o ∷ steps) (row ∷ rows) e at h =
      let here : o ≡ inst = cc in
      let number : first ≡ r = omega arith in
      subst (λ n. HasRow (ProvesEachOf IsTerm problem.axioms (precondition problem inst)) (marks_from first (row ∷ rows)) n) number
      record {
        row = row;
        fact_of = subst (λ (x : OpInst). ProvesEachOf IsTerm problem.axioms (precondition problem x) row) here h.0;
        marked = first_row first row rows;
      }
  row_of_step first (suc k) r inst (o ∷ steps) (row ∷ rows) e at h =
      later_row (ProvesEachOf IsTerm problem.axioms (precondition problem inst)) first r row rows
      (row_of_step (suc first) k r inst steps rows (omega arith) at h.1)

  pub row_of_goal : (first r : ℕ) (steps : List OpInst) (rows : List (List Derivation)) → r ≡ first + length steps
      → RowsProve IsTerm problem params steps goal goal_variable_count rows
      → HasRow (ProvesGoal IsTerm problem.axioms params goal goal_variable_count) (marks_from first rows) r
  row_of_goal first r [] [] e h = absurd h
  row_of_goal first r [] (row ∷ []) e h =
      let number : first ≡ r = omega arith in
      subst (λ n. HasRow (ProvesGoal IsTerm problem.axioms params goal goal_variable_count) (marks_from first (row ∷ [])) n) number
      record { row = row; fact_of = h; marked = first_row first row [] }
  row_of_goal first r [] (row ∷ second ∷ rows) e h = absurd h
  row_of_goal first r (o ∷ steps) [] e h = absurd h
  row_of_goal first r (o ∷ steps) (row ∷ rows) e h =
      later_row (ProvesGoal IsTerm problem.axioms params goal goal_variable_count) first r row rows
      (row_of_goal (suc first) r steps rows (omega arith) h.1)

-- what a row proves is true where its leaves are, by whatever sense of truth proofs are sound
module _ (IsTrueHere : Atom → Type 0) (IsTerm : Term → Type 0) (axioms : List Clause)
    (sound : (atom : Atom) (d : Derivation) → IsProofOf IsTerm axioms atom d → All IsTrueHere (leaf_atoms (leaves_of d)) → IsTrueHere atom)
  where
    pub row_true : (atoms : List Atom) (row : List Derivation) → ((leaf : Leaf) → Contains (row_leaves row) leaf → IsTrueHere leaf.atom)
        → ProvesEachOf IsTerm axioms atoms row → All IsTrueHere atoms
    row_true [] [] leaves each = λ k d below. absurd (omega (arith, below))
    row_true [] (d ∷ row) leaves each = absurd each
    row_true (atom ∷ atoms) [] leaves each = absurd each
    row_true (atom ∷ atoms) (d ∷ row) leaves each =
        All-cons IsTrueHere atom atoms
        (sound atom d each.0 (All-map IsTrueHere (λ (leaf : Leaf). leaf.atom) (leaves_of d)
        (All-each (λ (leaf : Leaf). IsTrueHere leaf.atom) (leaves_of d)
        (λ leaf has. leaves leaf (Contains-append_left (leaves_of d) (row_leaves row) leaf has)))))
        (row_true atoms row (λ leaf has. leaves leaf (Contains-append_right (leaves_of d) (row_leaves row) leaf has)) each.1)
