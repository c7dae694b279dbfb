-- Why supports over any objects carry, and why none has a leaf that names what isn't there.
use Rattle.std.specs.Prelude.{◌≡◌, ℕ, ◌<◌, ◌≤◌, Some, List, [], ◌∷◌, slice_get, slice_index_or, All, Contains}
use Rattle.std.proofs.Common.{zero, suc, subst, arith}
use Rattle.px_base.specs.ListLaws.{All-at}
use Rattle.px_terms.specs.declared.atom.Atom.{Atom}
use Rattle.px_terms.specs.declared.instance.OpInst.{OpInst}
use Rattle.px_terms.specs.declared.problem.Problem.{Problem}
use Rattle.px_terms.specs.declared.term.Term.{Term}
use Rattle.px_terms.specs.Operators.{adds}
use Rattle.px_terms.specs.Plans.{Carries}
use Rattle.px_terms.specs.Validity.{HasArity, IsTermOf}
use Rattle.px_proof.specs.declared.proof.Leaf.{Leaf}
use Rattle.px_proof.specs.Derivation.{Derivation, leaves_of, leaf_atoms, terms_of}
use Rattle.px_table.specs.declared.mark.Mark.{Mark}
use Rattle.px_table.specs.Marks.{IsKept, IsNamed, mark_of, marks_from, step_at}
use Rattle.px_table.specs.ObjectLaws.{FromSome, from_each, rows_objects, terms_name_objects}
use Rattle.px_table.specs.RowLaws.{leaf_marked}
use Rattle.px_table.specs.SupportClaims.{HaveArities, IsLeafOf, SupportsCarry, SupportsRefuse, with_object_count}
use Rattle.px_table.specs.SupportLaws.{support_carries}
use Rattle.px_table.specs.Supports.{RowsProve, Supports}
use Rattle.px_table.specs.Tables.{AreOfProblem}

-- ---- over any objects

module _ (problem : Problem) (count : ℕ) where
  rows_wider : (IsTerm : Term → Type 0) (params : ℕ) (goal : List Atom) (goal_variable_count : ℕ) (steps : List OpInst)
      (rows : List (List Derivation))
      → RowsProve IsTerm problem params steps goal goal_variable_count rows
      → RowsProve IsTerm (with_object_count problem count) params steps goal goal_variable_count rows
  rows_wider IsTerm params goal goal_variable_count [] [] h = h
  rows_wider IsTerm params goal goal_variable_count [] (row ∷ []) h = h
  rows_wider IsTerm params goal goal_variable_count [] (row ∷ second ∷ rows) h = h
  rows_wider IsTerm params goal goal_variable_count (inst ∷ steps) [] h = h
  rows_wider IsTerm params goal goal_variable_count (inst ∷ steps) (row ∷ rows) h = (h.0, rows_wider IsTerm params goal goal_variable_count steps rows h.1)

  -- the number of the problem's objects doesn't count
  pub support_wider : (atoms : List Atom) (steps : List OpInst) (goal : List Atom) (goal_variable_count : ℕ) (rows : List (List Derivation))
      → Supports problem atoms steps goal goal_variable_count rows → Supports (with_object_count problem count) atoms steps goal goal_variable_count rows
  support_wider atoms steps goal goal_variable_count rows s = record {
    instances = λ k d below. let i = s.instances k d below in record { op = i.op; count = i.count; all_objects = i.all_objects };
    prove = rows_wider _ 0 goal goal_variable_count steps rows s.prove;
    named = λ k d below. let n = s.named k d below in record { earlier = n.earlier; initial = n.initial; added = n.added };
    given = s.given;
    kept = s.kept;
  }

module _ (problem : Problem) (atoms : List Atom) (steps : List OpInst) (goal : List Atom) (goal_variable_count : ℕ) (rows : List (List Derivation))
    (supports : Supports problem atoms steps goal goal_variable_count rows) where
  over_objects : (count : ℕ) → AreOfProblem (with_object_count problem count) rows
      → Carries (with_object_count problem count) atoms steps goal_variable_count goal
  over_objects count are = support_carries (with_object_count problem count) atoms steps goal goal_variable_count rows are
      (support_wider problem count atoms steps goal goal_variable_count rows supports)

  -- the rows are the problem's, with enough objects
  rows_from : HaveArities problem rows → FromSome (λ count. AreOfProblem (with_object_count problem count) rows)
  rows_from arities =
      from_each (λ count (row : List Derivation). All (IsDerivationOf count) row) rows (λ k row below.
      from_each IsDerivationOf _ (λ j d inner.
      (let from = terms_name_objects problem (slice_index_or (slice_index_or rows k row) j d)
      (rows_objects problem goal goal_variable_count steps rows supports.prove k row below j d inner) in
      (from.0, λ count enough. (from.1 count enough, arities k row below j d inner)))))
    where
      IsDerivationOf : ℕ → Derivation → Type 0
      IsDerivationOf count d = All (IsTermOf (with_object_count problem count) 0) (terms_of d)
          × All (HasArity problem) (leaf_atoms (leaves_of d))

  enough_objects : HaveArities problem rows → (least : ℕ) × ((count : ℕ) → least ≤ count
      → Carries (with_object_count problem count) atoms steps goal_variable_count goal)
  enough_objects arities = let from = rows_from arities in (from.0, λ count enough. over_objects count (from.1 count enough))

pub supports_carry : SupportsCarry
supports_carry = record {
  over = λ problem count atoms steps goal goal_variable_count rows supports are. over_objects problem atoms steps goal goal_variable_count rows supports count
      are;
  enough = λ problem atoms steps goal goal_variable_count rows supports arities. enough_objects problem atoms steps goal goal_variable_count rows supports
      arities;
}

-- ---- what no support has

module _ (problem : Problem) (atoms : List Atom) (steps : List OpInst) (goal : List Atom) (goal_variable_count : ℕ) (rows : List (List Derivation))
    (row : ℕ) (leaf : Leaf) (is : IsLeafOf rows row leaf)
    (supports : Supports problem atoms steps goal goal_variable_count rows) where
  leaf_mark : Contains (marks_from 1 rows) (mark_of row leaf)
  leaf_mark = leaf_marked 1 is.place row rows is.proofs leaf (omega (arith, is.number)) is.row_at is.is_leaf

  leaf_named : IsNamed problem steps (mark_of row leaf)
  leaf_named = All-at (IsNamed problem steps) (marks_from 1 rows) (mark_of row leaf) supports.named leaf_mark

  leaf_earlier : ¬ (row ≤ leaf.column)
  leaf_earlier late = let earlier : leaf.column < row = leaf_named.earlier in omega (arith, late, earlier)

  leaf_given : leaf.column ≡ 0 → Contains atoms leaf.atom
  leaf_given = All-at (λ (m : Mark). m.column ≡ 0 → Contains atoms m.atom) (marks_from 1 rows) (mark_of row leaf) supports.given leaf_mark

  leaf_added : (inst : OpInst) → step_at steps leaf.column ≡ Some inst → slice_get (adds problem inst) leaf.index ≡ Some leaf.atom
  leaf_added inst at = added_at steps leaf.column leaf_named.added at
    where
      added_at : (steps : List OpInst) (column : ℕ) → (0 < column → (add : OpInst) × (step_at steps column ≡ Some add)
          × (slice_get (adds problem add) leaf.index ≡ Some leaf.atom))
          → step_at steps column ≡ Some inst → slice_get (adds problem inst) leaf.index ≡ Some leaf.atom
      added_at steps zero added at = absurd (cc)
      added_at steps (suc k) added at =
          let add = added (omega arith) in
          let same : add.0 ≡ inst = cc (add.1, at) in
          subst (λ (x : OpInst). slice_get (adds problem x) leaf.index ≡ Some leaf.atom) same add.2

  leaf_kept : IsKept problem steps 1 (mark_of row leaf)
  leaf_kept = All-at (IsKept problem steps 1) (marks_from 1 rows) (mark_of row leaf) supports.kept leaf_mark

pub supports_refuse : SupportsRefuse
supports_refuse problem atoms steps goal goal_variable_count rows row leaf is = record {
  own_column = λ late supports. leaf_earlier problem atoms steps goal goal_variable_count rows row leaf is supports late;
  other_index = λ start other supports. other ((leaf_named problem atoms steps goal goal_variable_count rows row leaf is supports).initial start);
  not_given = λ start absent supports. absent (leaf_given problem atoms steps goal goal_variable_count rows row leaf is supports start);
  not_added = λ inst at other supports. other (leaf_added problem atoms steps goal goal_variable_count rows row leaf is supports inst at);
  deleted_since = λ k inst after before at deleted supports. leaf_kept problem atoms steps goal goal_variable_count rows row leaf is supports k inst
      (omega (arith, after)) after before at deleted;
}
