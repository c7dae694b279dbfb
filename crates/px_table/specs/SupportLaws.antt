-- A support carries its steps to the goal, and over the problem's numbers it makes a table.
use Rattle.std.specs.Prelude.{◌≡◌, ℕ, ◌+◌, ◌<◌, ◌≤◌, Some, List, [], ◌∷◌, length, map, slice_index, slice_index_or, All, Contains}
use Rattle.std.proofs.Common.{zero, suc, refl, sym, ap, ◌∙◌, subst, inl, inr, arith}
use Rattle.std.proofs.lemmas.List.{length-map}
use Rattle.std.proofs.lemmas.List.Elements.{All-map, All-nil, Contains-append_cases}
use Rattle.px_base.specs.Bounds.{u32_max}
use Rattle.px_base.specs.ListLaws.{All-at, All-each, Contains-none, Contains-first, Contains-later, Contains-cases}
use Rattle.px_terms.specs.declared.atom.Atom.{Atom}
use Rattle.px_terms.specs.declared.clause.Lit.{Lit}
use Rattle.px_terms.specs.declared.instance.OpInst.{OpInst}
use Rattle.px_terms.specs.declared.problem.Problem.{Problem}
use Rattle.px_terms.specs.declared.term.Term.{Term}
use Rattle.px_terms.specs.declared.term.Term.TheVariants.{Obj, Var, Any}
use Rattle.px_terms.specs.Language.{IsObject, object_of}
use Rattle.px_terms.specs.Operators.{precondition, schema_of}
use Rattle.px_terms.specs.Plans.{Carries, GoalHolds}
use Rattle.px_terms.specs.Sorts.{FitsSort, IsOfSort, IsWellSorted}
use Rattle.px_terms.specs.States.{State, IsState, Holds, HoldsUnder, AxiomsHold, element_of}
use Rattle.px_terms.specs.Substitution.{substitute_atom}
use Rattle.px_terms.specs.Validity.{HasArity, IsAtomOf, IsAxiomOf, IsInstanceOf, IsTermOf, IsValid}
use Rattle.px_terms.specs.ValidityLaws.{atom-is_of}
use Rattle.px_proof.specs.declared.proof.Leaf.{Leaf}
use Rattle.px_proof.specs.declared.proof.Proof.{Proof}
use Rattle.px_proof.specs.Derivation.{Derivation, Derivations, fact, ancestor, step, gap, open_place, none, also, leaves_of, all_leaves_of, leaf_atoms, terms_of, all_terms_of}
use Rattle.px_proof.specs.Literals.{positive_of, substitute_literal}
use Rattle.px_proof.specs.PlaceLaws.{All-back, All-prefix, All-got, Contains-mapped}
use Rattle.px_proof.specs.Proves.{Proves, ProvesEach, IsObjectOrParameter, from_atoms, parts_of}
use Rattle.px_proof.specs.Soundness.{follows}
use Rattle.px_proof.specs.TruthLaws.{literal-under}
use Rattle.px_proof.specs.ProvesLaws.{name_of_term}
use Rattle.px_table.specs.declared.mark.Mark.{Mark}
use Rattle.px_table.specs.Carrying.{IsCarried, KernelHolds, RowHolds, carry_meets, carry_ends}
use Rattle.px_table.specs.Marks.{IsKept, mark_eq, mark_of, marks_from, row_leaves, row_marks, step_at}
use Rattle.px_table.specs.OnceLaws.{Contains-from_each_once}
use Rattle.px_table.specs.RowLaws.{row_of_goal, row_of_step, row_true}
use Rattle.px_table.specs.Supports.{IsProofOf, ProvesEachOf, RowsProve, Supports}
use Rattle.px_table.specs.Tables.{AreOfProblem, IsStepOf, IsTable, rows_of, table_of_rows}
use Rattle.px_table.specs.UnderLaws.{from_map, term-within}
use Rattle.px_table.specs.WellSorted.{IsWellSortedStep}

-- ---- a support carries

module _ (problem : Problem) (atoms : List Atom) (steps : List OpInst) (goal : List Atom) (goal_variable_count : ℕ) (rows : List (List Derivation))
    (support : Supports problem atoms steps goal goal_variable_count rows)
    (of_problem : All (λ mark. IsAtomOf problem 0 mark.atom) (marks_from 1 rows)) where
  sound_here : (state : State) → IsState state → AxiomsHold problem state → (atom : Atom) (d : Derivation)
      → IsProofOf IsObject problem.axioms atom d → All (Holds state) (leaf_atoms (leaves_of d)) → Holds state atom
  sound_here state is axioms atom d proof leaves = follows problem.axioms (leaf_atoms (leaves_of d)) (positive_of atom) d proof.proves state
      is axioms leaves

  atoms_true : (state : State) → IsState state → AxiomsHold problem state → (r : ℕ) (wanted : List Atom) (row : List Derivation)
      → ((leaf : Leaf) → Contains (row_leaves row) leaf → Contains (marks_from 1 rows) (mark_of r leaf))
      → RowHolds (marks_from 1 rows) state r
      → ProvesEachOf IsObject problem.axioms wanted row → All (Holds state) wanted
  atoms_true state is axioms r wanted row marked holds each =
      row_true (Holds state) IsObject problem.axioms (sound_here state is axioms) wanted row
      (λ leaf has. holds (mark_of r leaf) (marked leaf has) refl) each

  rows_here : (r : ℕ) (inst : OpInst) (state : State) → step_at steps r ≡ Some inst → IsState state → AxiomsHold problem state
      → RowHolds (marks_from 1 rows) state r → All (Holds state) (precondition problem inst)
  rows_here zero inst state at is axioms holds = absurd (cc)
  rows_here (suc k) inst state at is axioms holds =
      let row = row_of_step IsObject problem 0 goal goal_variable_count 1 k (suc k) inst steps rows (omega arith) at support.prove in
      atoms_true state is axioms (suc k) (precondition problem inst) row.row row.marked holds row.fact_of

  goal_here : (state : State) → IsState state → AxiomsHold problem state → RowHolds (marks_from 1 rows) state (suc (length steps))
      → GoalHolds state goal_variable_count goal
  goal_here state is axioms holds =
      let row = row_of_goal IsObject problem 0 goal goal_variable_count 1 (suc (length steps)) steps rows (omega arith) support.prove in
      let chosen = row.fact_of.0 in
      let values : List ℕ = map (element_of state []) chosen in
      let true_here = atoms_true state is axioms (suc (length steps)) (map (substitute_atom chosen) goal) row.row row.marked holds
      row.fact_of.2 in (
        values,
        (
          length-map chosen (element_of state []) ∙ row.fact_of.1,
          All-map (λ e. e < state.size) (element_of state []) chosen
              (λ k d below. term-within state is [] (λ j e under. absurd (omega (arith, under))) _),
        ),
        All-each (HoldsUnder state values) goal
            (λ a has. (literal-under state [] chosen (positive_of a)).0
            (All-at (Holds state) (map (substitute_atom chosen) goal) (substitute_atom chosen a) true_here
            (Contains-mapped (substitute_atom chosen) goal a has))),
      )

  carried : IsCarried problem steps goal_variable_count goal (marks_from 1 rows)
  carried = record { named = support.named; atoms = of_problem; rows = rows_here; last = goal_here }

  start_holds : (state : State) → All (Holds state) atoms → KernelHolds (marks_from 1 rows) state 1
  start_holds state facts mark has row column =
      All-at (Holds state) atoms mark.atom facts (All-at (λ (m : Mark). m.column ≡ 0 → Contains atoms m.atom) (marks_from 1 rows) mark
      support.given has (omega (arith, column)))

  kept_here : (mark : Mark) → Contains (marks_from 1 rows) mark → IsKept problem steps 1 mark
  kept_here mark has = All-at (IsKept problem steps 1) (marks_from 1 rows) mark support.kept has

  pub support-carries : Carries problem atoms steps goal_variable_count goal
  support-carries = record {
    meets = λ state later run facts. carry_meets problem steps goal_variable_count goal (marks_from 1 rows) carried steps later 0 state refl
        (start_holds state facts) kept_here run;
    ends = λ state later run facts long. carry_ends problem steps goal_variable_count goal (marks_from 1 rows) carried steps later 0 state
        (omega arith) refl (start_holds state facts) kept_here run long;
  }

-- ---- leaves and marks over the problem's numbers

mutual
  -- the terms of a leaf are terms of the derivation
  leaf_terms : (P : Term → Type 0) (d : Derivation) (leaf : Leaf) → All P (terms_of d) → Contains (leaves_of d) leaf → All P leaf.atom.args
  leaf_terms P (fact l) leaf all has = elim (Contains-cases l [] leaf has)
      [ inl is ↦ subst (λ (x : Leaf). All P x.atom.args) is all | inr later ↦ absurd (Contains-none leaf later) ]
  leaf_terms P (ancestor i) leaf all has = absurd (Contains-none leaf has)
  leaf_terms P (step number theta place parts) leaf all has = leaves_terms P parts leaf (All-back P theta (all_terms_of parts) all) has
  leaf_terms P (gap atom) leaf all has = absurd (Contains-none leaf has)
  leaf_terms P open_place leaf all has = absurd (Contains-none leaf has)

  leaves_terms : (P : Term → Type 0) (ds : Derivations) (leaf : Leaf) → All P (all_terms_of ds) → Contains (all_leaves_of ds) leaf
      → All P leaf.atom.args
  leaves_terms P none leaf all has = absurd (Contains-none leaf has)
  leaves_terms P (also d ds) leaf all has = elim (Contains-append_cases (leaves_of d) (all_leaves_of ds) leaf has) [
    | inl first ↦ leaf_terms P d leaf (All-prefix P (terms_of d) (all_terms_of ds) all) first
    | inr later ↦ leaves_terms P ds leaf (All-back P (terms_of d) (all_terms_of ds) all) later
  ]

-- what holds of the atom of each leaf holds of the atom of each mark
module _ (P : Atom → Type 0) where
  row_leaf : (row : List Derivation) → All (λ d. (leaf : Leaf) → Contains (leaves_of d) leaf → P leaf.atom) row → (leaf : Leaf)
      → Contains (row_leaves row) leaf → P leaf.atom
  row_leaf [] all leaf has = absurd (Contains-none leaf has)
  row_leaf (d ∷ row) all leaf has = elim (Contains-append_cases (leaves_of d) (row_leaves row) leaf has) [
    | inl first ↦ all 0 d (omega arith) leaf first
    | inr later ↦ row_leaf row (λ k e below. all (suc k) e (omega (arith, below))) leaf later
  ]

  mark_in_row : (r : ℕ) (leaves : List Leaf) → ((leaf : Leaf) → Contains leaves leaf → P leaf.atom) → (mark : Mark)
      → Contains (map (mark_of r) leaves) mark → P mark.atom
  mark_in_row r [] each mark has = absurd (Contains-none mark has)
  mark_in_row r (leaf ∷ leaves) each mark has = elim (Contains-cases (mark_of r leaf) (map (mark_of r) leaves) mark has) [
    | inl is ↦ subst (λ (m : Mark). P m.atom) is (each leaf (Contains-first leaf leaves))
    | inr later ↦ mark_in_row r leaves (λ l inside. each l (Contains-later leaf leaves l inside)) mark later
  ]

  all_marks : (first : ℕ) (rows : List (List Derivation)) → All (All (λ d. (leaf : Leaf) → Contains (leaves_of d) leaf → P leaf.atom)) rows
      → (mark : Mark) → Contains (marks_from first rows) mark → P mark.atom
  all_marks first [] all mark has = absurd (Contains-none mark has)
  all_marks first (row ∷ rows) all mark has = elim (Contains-append_cases (row_marks first row) (marks_from (suc first) rows) mark has) [
    | inl here ↦ mark_in_row first (row_leaves row) (row_leaf row (all 0 row (omega arith))) mark
        (Contains-from_each_once mark_eq (map (mark_of first) (row_leaves row)) mark here)
    | inr later ↦ all_marks (suc first) rows (λ k e below. all (suc k) e (omega (arith, below))) mark later
  ]

leaf_is_of : (problem : Problem) (d : Derivation) → All (IsTermOf problem 0) (terms_of d)
    × All (HasArity problem) (leaf_atoms (leaves_of d)) → (leaf : Leaf) → Contains (leaves_of d) leaf → IsAtomOf problem 0 leaf.atom
leaf_is_of problem d are leaf has = (
  All-at (HasArity problem) (leaf_atoms (leaves_of d)) leaf.atom are.1
      (Contains-mapped (λ (l : Leaf). l.atom) (leaves_of d) leaf has),
  leaf_terms (IsTermOf problem 0) d leaf are.0 has,
)

-- the marks of a support over the problem's numbers are atoms of the problem
pub marks-are_of : (problem : Problem) (rows : List (List Derivation)) → AreOfProblem problem rows
    → All (λ mark. IsAtomOf problem 0 mark.atom) (marks_from 1 rows)
marks-are_of problem rows are =
    All-each (λ (m : Mark). IsAtomOf problem 0 m.atom) (marks_from 1 rows)
    (all_marks (IsAtomOf problem 0) 1 rows (λ k row below j d inner. leaf_is_of problem (slice_index_or (slice_index_or rows k row) j d)
    (are k row below j d inner)))

pub support_carries : (problem : Problem) (atoms : List Atom) (steps : List OpInst) (goal : List Atom) (goal_variable_count : ℕ)
    (rows : List (List Derivation)) → AreOfProblem problem rows
    → Supports problem atoms steps goal goal_variable_count rows → Carries problem atoms steps goal_variable_count goal
support_carries problem atoms steps goal goal_variable_count rows are support =
    support-carries problem atoms steps goal goal_variable_count rows support (marks-are_of problem rows are)

-- ---- proofs over objects are proofs over the problem's objects

terms-are_names : (problem : Problem) (ts : List Term) → All (IsTermOf problem 0) ts → All (IsObjectOrParameter problem.objects 0) ts
terms-are_names problem ts all k d below = name_of_term problem 0 _ (all k d below)

module _ (problem : Problem) (atoms : List Atom) where
  mutual
    over_problem : (path : List Lit) (lit : Lit) (d : Derivation) → All (IsTermOf problem 0) (terms_of d)
        → Proves (from_atoms IsObject atoms) problem.axioms path lit d
        → Proves (from_atoms (IsObjectOrParameter problem.objects 0) atoms) problem.axioms path lit d
    over_problem path lit (fact leaf) all proved = (proved.0, (proved.1.0, terms-are_names problem leaf.atom.args all))
    over_problem path lit (ancestor i) all proved = proved
    over_problem path lit (step number theta place parts) all proved = (
      proved.0,
      record {
        axiom_at = proved.1.axiom_at;
        terms = proved.1.terms;
        choices = terms-are_names problem theta (All-prefix (IsTermOf problem 0) theta (all_terms_of parts) all);
        literal_at = proved.1.literal_at;
      },
      each_over_problem (lit ∷ path) (parts_of proved.0.lits theta place) parts
          (All-back (IsTermOf problem 0) theta (all_terms_of parts) all) proved.2,
    )
    over_problem path lit (gap atom) all proved = proved
    over_problem path lit open_place all proved = proved

    each_over_problem : (path lits : List Lit) (ds : Derivations) → All (IsTermOf problem 0) (all_terms_of ds)
        → ProvesEach (from_atoms IsObject atoms) problem.axioms path lits ds
        → ProvesEach (from_atoms (IsObjectOrParameter problem.objects 0) atoms) problem.axioms path lits ds
    each_over_problem path [] none all each = tt
    each_over_problem path (lit ∷ lits) (also d ds) all each = (
      over_problem path lit d (All-prefix (IsTermOf problem 0) (terms_of d) (all_terms_of ds) all) each.0,
      each_over_problem path lits ds (All-back (IsTermOf problem 0) (terms_of d) (all_terms_of ds) all) each.1,
    )
    each_over_problem path [] (also d ds) all each = absurd each
    each_over_problem path (lit ∷ lits) none all each = absurd each

  -- what a derivation over the problem's objects proves is an atom over them
  conclusion_terms : IsValid problem → (atom : Atom) (d : Derivation) → All (IsTermOf problem 0) (terms_of d)
      → Proves (from_atoms IsObject atoms) problem.axioms [] (positive_of atom) d → All (IsTermOf problem 0) atom.args
  conclusion_terms valid atom (fact leaf) all proved =
      let same : atom ≡ leaf.atom = ap (λ (l : Lit). l.atom) proved.0 in
      subst (λ (a : Atom). All (IsTermOf problem 0) a.args) (sym same) all
  conclusion_terms valid atom (ancestor i) all proved = absurd (cc)
  conclusion_terms valid atom (step number theta place parts) all proved =
      let clause = proved.0 in
      let from = from_map (substitute_literal theta) clause.lits place (positive_of atom) proved.1.literal_at in
      let is_axiom : IsAxiomOf problem clause = All-got (IsAxiomOf problem) problem.axioms number clause valid.axioms proved.1.axiom_at in
      let of_clause : IsAtomOf problem clause.variable_count from.0.atom =
      All-got (λ (l : Lit). IsAtomOf problem clause.variable_count l.atom) clause.lits place from.0 is_axiom.lits from.1 in
      let objects = All-prefix (IsTermOf problem 0) theta (all_terms_of parts) all in
      let made = atom-is_of problem theta objects from.0.atom (subst (λ n. IsAtomOf problem n from.0.atom) (sym proved.1.terms) of_clause)
      in
      subst (λ (a : Atom). All (IsTermOf problem 0) a.args) (ap (λ (l : Lit). l.atom) from.2) made.1
  conclusion_terms valid atom (gap a) all proved = absurd proved.1
  conclusion_terms valid atom open_place all proved = absurd proved

proof_over_problem : (problem : Problem) → IsValid problem → (atom : Atom) (d : Derivation) → All (IsTermOf problem 0) (terms_of d)
    → IsProofOf IsObject problem.axioms atom d → IsProofOf (IsObjectOrParameter problem.objects 0) problem.axioms atom d
proof_over_problem problem valid atom d all proof = record {
  proves = over_problem problem (leaf_atoms (leaves_of d)) [] (positive_of atom) d all proof.proves;
  terms = terms-are_names problem atom.args (conclusion_terms problem (leaf_atoms (leaves_of d)) valid atom d all proof.proves);
}

row_over_problem : (problem : Problem) → IsValid problem → (atoms : List Atom) (row : List Derivation)
    → All (λ d. All (IsTermOf problem 0) (terms_of d) × All (HasArity problem) (leaf_atoms (leaves_of d))) row
    → ProvesEachOf IsObject problem.axioms atoms row → ProvesEachOf (IsObjectOrParameter problem.objects 0) problem.axioms atoms row
row_over_problem problem valid [] [] all each = tt
row_over_problem problem valid [] (d ∷ row) all each = absurd each
row_over_problem problem valid (atom ∷ atoms) [] all each = absurd each
row_over_problem problem valid (atom ∷ atoms) (d ∷ row) all each = (
  proof_over_problem problem valid atom d (all 0 d (omega arith)).0 each.0,
  row_over_problem problem valid atoms row (λ k e below. all (suc k) e (omega (arith, below))) each.1,
)

rows_over_problem : (problem : Problem) → IsValid problem → (goal : List Atom) (goal_variable_count : ℕ) (steps : List OpInst)
    (rows : List (List Derivation)) → AreOfProblem problem rows
    → RowsProve IsObject problem 0 steps goal goal_variable_count rows
    → RowsProve (IsObjectOrParameter problem.objects 0) problem 0 steps goal goal_variable_count rows
rows_over_problem problem valid goal goal_variable_count [] [] are h = absurd h
rows_over_problem problem valid goal goal_variable_count [] (row ∷ []) are h =
    (h.0, h.1, row_over_problem problem valid (map (substitute_atom h.0) goal) row (are 0 row (omega arith)) h.2)
rows_over_problem problem valid goal goal_variable_count [] (row ∷ second ∷ rows) are h = absurd h
rows_over_problem problem valid goal goal_variable_count (inst ∷ steps) [] are h = absurd h
rows_over_problem problem valid goal goal_variable_count (inst ∷ steps) (row ∷ rows) are h = (
  row_over_problem problem valid (precondition problem inst) row (are 0 row (omega arith)) h.0,
  rows_over_problem problem valid goal goal_variable_count steps rows (λ k e below. are (suc k) e (omega (arith, below))) h.1,
)

step_of : (problem : Problem) (inst : OpInst) → IsInstanceOf problem inst → IsStepOf problem 0 inst
step_of problem inst is = record { op = is.op; count = is.count; terms = is.objects }

-- an object that fits a place may stand there
object-stands : (problem : Problem) (wanted : ℕ) (t : Term) → IsTermOf problem 0 t → FitsSort problem.object_sorts wanted (object_of t)
    → IsOfSort problem.object_sorts [] wanted t
object-stands problem wanted (Obj n) is fits = fits
object-stands problem wanted (Var v) is fits = absurd (omega (arith, is))
object-stands problem wanted Any is fits = tt

instance-stands : (problem : Problem) (inst : OpInst) → IsInstanceOf problem inst → IsWellSorted problem inst
    → IsWellSortedStep problem [] inst
instance-stands problem inst is fits k below =
    object-stands problem (slice_index (schema_of problem inst).param_sorts k) (slice_index_or inst.args k Any) (is.objects k Any below)
    (fits k below)

-- a support over the problem's numbers, whose steps fit, makes a table
pub support_table : (problem : Problem) → IsValid problem → (atoms : List Atom) (steps : List OpInst) (goal : List Atom) (goal_variable_count : ℕ)
    (support : List (List Proof)) → Supports problem atoms steps goal goal_variable_count (rows_of support)
    → All (IsInstanceOf problem) steps → All (IsAtomOf problem goal_variable_count) goal → AreOfProblem problem (rows_of support)
    → length steps < u32_max → All (IsWellSorted problem) steps
    → IsTable problem (table_of_rows 0 [] steps goal goal_variable_count support)
support_table problem valid atoms steps goal goal_variable_count support supports instances goal_atoms are short fitting = record {
  in_range = record {
    short = short;
    steps = λ k d below. step_of problem _ (instances k d below);
    goal = subst (λ n. All (IsAtomOf problem n) goal) (let e : goal_variable_count ≡ 0 + goal_variable_count = omega arith in e) goal_atoms;
  };
  prove = rows_over_problem problem valid goal goal_variable_count steps (rows_of support) are supports.prove;
  marks = refl;
  atoms = marks-are_of problem (rows_of support) are;
  named = supports.named;
  sorted = record {
    count = refl;
    sorts = All-nil (λ sort. sort ≤ problem.sorts);
    steps = λ k d below. instance-stands problem _ (instances k d below) (fitting k d below);
  };
}
