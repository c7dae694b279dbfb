-- Which atoms a kernel has, what the marks of a row give, and why each proper instance of each kernel of a table carries the steps
-- that are left to the goal.
use Rattle.std.specs.Prelude.{◌≡◌, ℕ, ◌+◌, ◌-◌, ◌<◌, ◌≤◌, ◌&&◌, true, nat_le, nat_lt, Some, List, [], ◌∷◌, ◌++◌, length, map, drop, All, Contains}
use Rattle.std.proofs.Common.{zero, suc, refl, sym, ap, ◌∙◌, subst, arith}
use Rattle.std.proofs.lemmas.Bool.Decides.{nat_tests}
use Rattle.std.proofs.lemmas.List.{length-map}
use Rattle.std.proofs.lemmas.List.Elements.{All-map}
use Rattle.px_base.specs.ListLaws.{All-at, All-each, Contains-filter}
use Rattle.px_terms.specs.declared.atom.Atom.{Atom}
use Rattle.px_terms.specs.declared.instance.OpInst.{OpInst}
use Rattle.px_terms.specs.declared.problem.Problem.{Problem}
use Rattle.px_terms.specs.declared.term.Term.TheVariants.{Obj}
use Rattle.px_terms.specs.Operators.{precondition}
use Rattle.px_terms.specs.Order.{atom_eq}
use Rattle.px_terms.specs.OrderLaws.{atom_eq-decides}
use Rattle.px_terms.specs.Plans.{Carries, GoalHolds}
use Rattle.px_terms.specs.States.{State, IsState, Holds, HoldsUnder, AreValues, AxiomsHold, element_of}
use Rattle.px_terms.specs.Substitution.{substitute_atom}
use Rattle.px_terms.specs.Validity.{IsAtomOf}
use Rattle.px_proof.specs.declared.proof.Leaf.{Leaf}
use Rattle.px_proof.specs.Derivation.{Derivation, leaves_of, leaf_atoms}
use Rattle.px_proof.specs.Literals.{positive_of}
use Rattle.px_proof.specs.PlaceLaws.{Contains-mapped}
use Rattle.px_proof.specs.Proves.{IsObjectOrParameter}
use Rattle.px_proof.specs.Soundness.{tree_follows}
use Rattle.px_table.specs.declared.mark.Mark.{Mark}
use Rattle.px_table.specs.declared.table.Table.{Table}
use Rattle.px_table.specs.Carrying.{IsCarried, KernelHolds, RowHolds, carry_meets, carry_ends}
use Rattle.px_table.specs.Kernels.{IsInstantiation, IsProper, KernelsAreMarks, KernelsCarry, RowsMeetPreconditions, TailCarries, atom_under, goal_under, instance_under, kernel_marks, kernel_of, kernel_under, mark_under, steps_under}
use Rattle.px_table.specs.Marks.{IsKept, IsNamed, mark_of, row_leaves, step_at}
use Rattle.px_table.specs.OnceLaws.{Contains-each_once, Contains-from_each_once}
use Rattle.px_table.specs.RowLaws.{row_of_goal, row_of_step, row_true}
use Rattle.px_table.specs.Supports.{IsProofOf, ProvesEachOf, variables}
use Rattle.px_table.specs.Tables.{IsTable, rows_of}
use Rattle.px_table.specs.UnderLaws.{IsNamed-under, atom_under-is_of, elements-are_values, elements_under, from_map, term-within, goal_holds-under, holds-under, precondition-under}

-- an item of the list under a map comes from one of the list
pub Contains-from_map : {A B : Type 0} (f : A → B) (xs : List A) (y : B) → Contains (map f xs) y → (x : A) × Contains xs x × (f x ≡ y)
Contains-from_map f [] y has = absurd (omega (arith, has.1))
Contains-from_map f (x ∷ xs) y (zero, below, is) = (x, (0, omega arith, refl), is)
Contains-from_map f (x ∷ xs) y (suc k, below, is) =
    let rest = Contains-from_map f xs y (k, omega (arith, below), is) in
    (rest.0, (suc rest.1.0, omega (arith, rest.1.1), rest.1.2), rest.2)

between : (i r c : ℕ) → i ≤ r → c < i → nat_le i r && nat_lt c i ≡ true
between i r c row column = grind (arith, nat_tests)

-- the atom of a mark that the kernel rests on is in the kernel
pub kernel-has : (table : Table) (i : ℕ) (mark : Mark) → Contains table.marks mark → i ≤ mark.row → mark.column < i
    → Contains (kernel_of table i) mark.atom
kernel-has table i mark has row column =
    Contains-each_once atom_eq atom_eq-decides (map (λ (m : Mark). m.atom) (kernel_marks table i)) mark.atom
    (Contains-mapped (λ (m : Mark). m.atom) (kernel_marks table i) mark
    ((Contains-filter (λ (m : Mark). nat_le i m.row && nat_lt m.column i) table.marks mark).1
    (has, between i mark.row mark.column row column)))

tests_between : (i r c : ℕ) → nat_le i r && nat_lt c i ≡ true → (i ≤ r) × (c < i)
tests_between i r c e = (grind (arith, nat_tests), grind (arith, nat_tests))

-- an atom of a kernel is that of a mark that the kernel rests on
pub from_kernel : (table : Table) (i : ℕ) (atom : Atom) → Contains (kernel_of table i) atom → (mark : Mark) × Contains table.marks mark
    × (mark.atom ≡ atom) × (i ≤ mark.row) × (mark.column < i)
from_kernel table i atom has =
    let once = Contains-from_each_once atom_eq (map (λ (m : Mark). m.atom) (kernel_marks table i)) atom has in
    let from = Contains-from_map (λ (m : Mark). m.atom) (kernel_marks table i) atom once in
    let passed = (Contains-filter (λ (m : Mark). nat_le i m.row && nat_lt m.column i) table.marks from.0).0 from.1 in
    let between = tests_between i from.0.row from.0.column passed.1 in
    (from.0, passed.0, from.2, between.0, between.1)

pub kernels_are_marks : KernelsAreMarks
kernels_are_marks table i atom = (
  from_kernel table i atom,
  λ m. subst (Contains (kernel_of table i)) m.2
      (kernel-has table i m.0 m.1 m.3 m.4),
)

module _ (problem : Problem) (table : Table) (is_table : IsTable problem table) (sigma : List ℕ)
    (given : IsInstantiation problem table sigma) where
  -- the marks with objects for the parameters
  abbrev pub Instances : List Mark
  Instances = map (mark_under sigma) table.marks

  -- what a proof over names proves is true with the elements of the objects
  sound_here : (state : State) → IsState state → AxiomsHold problem state → (atom : Atom) (d : Derivation)
      → IsProofOf (IsObjectOrParameter problem.objects table.params) problem.axioms atom d
      → All (HoldsUnder state (elements_under state sigma)) (leaf_atoms (leaves_of d)) → HoldsUnder state (elements_under state sigma) atom
  sound_here state is axioms atom d proof leaves =
      tree_follows problem.axioms problem.objects table.params (positive_of atom) d (record { proves = proof.proves; terms = proof.terms })
      state is axioms
      (elements_under state sigma) (subst (λ n. AreValues state n (elements_under state sigma)) given.count
      (elements-are_values state is sigma)) leaves

  -- the leaves of a row are true where the instances of its marks hold
  leaves_true : (state : State) (r : ℕ) (row : List Derivation)
      → ((leaf : Leaf) → Contains (row_leaves row) leaf → Contains table.marks (mark_of r leaf)) → RowHolds Instances state r
      → (leaf : Leaf) → Contains (row_leaves row) leaf → HoldsUnder state (elements_under state sigma) leaf.atom
  leaves_true state r row marked holds leaf has =
      (holds-under state sigma leaf.atom).0 (holds (mark_under sigma (mark_of r leaf))
      (Contains-mapped (mark_under sigma) table.marks (mark_of r leaf) (marked leaf has)) refl)

  atoms_true : (state : State) → IsState state → AxiomsHold problem state → (r : ℕ) (atoms : List Atom) (row : List Derivation)
      → ((leaf : Leaf) → Contains (row_leaves row) leaf → Contains table.marks (mark_of r leaf)) → RowHolds Instances state r
      → ProvesEachOf (IsObjectOrParameter problem.objects table.params) problem.axioms atoms row
      → All (HoldsUnder state (elements_under state sigma)) atoms
  atoms_true state is axioms r atoms row marked holds each =
      row_true (HoldsUnder state (elements_under state sigma)) (IsObjectOrParameter problem.objects table.params) problem.axioms
      (sound_here state is axioms) atoms row (leaves_true state r row marked holds) each

  -- where the instances of a row's marks hold, so does the precondition of its step
  pub rows_here : (r : ℕ) (inst : OpInst) (state : State) → step_at (steps_under table sigma) r ≡ Some inst → IsState state
      → AxiomsHold problem state → RowHolds Instances state r → All (Holds state) (precondition problem inst)
  rows_here zero inst state at is axioms holds = absurd (cc)
  rows_here (suc k) inst state at is axioms holds =
      let from = from_map (instance_under sigma) table.steps k inst at in
      let row =
      row_of_step (IsObjectOrParameter problem.objects table.params) problem table.params table.goal table.goal_variable_count 1 k (suc k) from.0
      table.steps (rows_of table.proofs) (omega arith) from.1 is_table.prove in
      let true_here = atoms_true state is axioms (suc k) (precondition problem from.0) row.row
      (λ leaf has. subst (λ ms. Contains ms (mark_of (suc k) leaf)) (sym is_table.marks) (row.marked leaf has)) holds row.fact_of in
      let all : All (Holds state) (map (atom_under sigma) (precondition problem from.0)) =
      All-map (Holds state) (atom_under sigma) (precondition problem from.0)
      (All-each (λ a. Holds state (atom_under sigma a)) (precondition problem from.0)
      (λ a has. (holds-under state sigma a).1 (All-at (HoldsUnder state (elements_under state sigma)) (precondition problem from.0) a
      true_here has))) in
      subst (λ (x : OpInst). All (Holds state) (precondition problem x)) from.2
      (subst (All (Holds state)) (sym (precondition-under problem (map Obj sigma) from.0)) all)

  goal_here : (state : State) → IsState state → AxiomsHold problem state → RowHolds Instances state (suc (length (steps_under table sigma)))
      → GoalHolds state table.goal_variable_count (goal_under table sigma)
  goal_here state is axioms holds =
      let row = row_of_goal (IsObjectOrParameter problem.objects table.params) problem table.params table.goal table.goal_variable_count 1
      (suc (length table.steps)) table.steps (rows_of table.proofs) (omega arith) is_table.prove in
      let chosen = row.fact_of.0 in
      let elements = elements_under state sigma in
      let values : List ℕ = map (element_of state elements) chosen in
      let here : RowHolds Instances state (suc (length table.steps)) =
      subst (λ n. RowHolds Instances state (suc n)) (length-map table.steps (instance_under sigma)) holds in
      let true_here = atoms_true state is axioms (suc (length table.steps))
      (map (substitute_atom (variables table.params ++ chosen)) table.goal) row.row
      (λ leaf has. subst (λ ms. Contains ms (mark_of (suc (length table.steps)) leaf)) (sym is_table.marks) (row.marked leaf has)) here
      row.fact_of.2 in (
        values,
        (
          length-map chosen (element_of state elements) ∙ row.fact_of.1,
          All-map (λ e. e < state.size) (element_of state elements) chosen
              (λ k d below. term-within state is elements (elements-are_values state is sigma).1 _),
        ),
        All-map (HoldsUnder state values) (substitute_atom (map Obj sigma ++ variables table.goal_variable_count)) table.goal
            (All-each (λ a. HoldsUnder state values (substitute_atom (map Obj sigma ++ variables table.goal_variable_count) a)) table.goal
            (λ a has. goal_holds-under state sigma chosen table.params table.goal_variable_count given.count row.fact_of.1 a
            (All-at (HoldsUnder state elements) (map (substitute_atom (variables table.params ++ chosen)) table.goal)
            (substitute_atom (variables table.params ++ chosen) a) true_here
            (Contains-mapped (substitute_atom (variables table.params ++ chosen)) table.goal a has)))),
      )

  carried : IsCarried problem (steps_under table sigma) table.goal_variable_count (goal_under table sigma) Instances
  carried = record {
    named = All-map (IsNamed problem (steps_under table sigma)) (mark_under sigma) table.marks
        (λ k d below. IsNamed-under problem table.steps sigma _ (is_table.named k d below));
    atoms = All-map (λ (m : Mark). IsAtomOf problem 0 m.atom) (mark_under sigma) table.marks
        (λ k d below. atom_under-is_of problem table sigma _ given (is_table.atoms k d below));
    rows = rows_here;
    last = goal_here;
  }

  module _ (k : ℕ) (within : k ≤ length table.steps) (proper : IsProper problem table sigma (suc k)) where
    kernel_holds : (state : State) → All (Holds state) (kernel_under table sigma (suc k)) → KernelHolds Instances state (suc k)
    kernel_holds state facts mark has row column =
        let from = Contains-from_map (mark_under sigma) table.marks mark has in
        subst (λ (m : Mark). Holds state m.atom) from.2
        (All-at (Holds state) (kernel_under table sigma (suc k)) (atom_under sigma from.0.atom) facts
        (Contains-mapped (atom_under sigma) (kernel_of table (suc k)) from.0.atom
        (kernel-has table (suc k) from.0 from.1 (subst (λ (m : Mark). suc k ≤ m.row) (sym from.2) row)
        (subst (λ (m : Mark). m.column < suc k) (sym from.2) column))))

    kept_here : (mark : Mark) → Contains Instances mark → IsKept problem (steps_under table sigma) (suc k) mark
    kept_here mark has =
        let from = Contains-from_map (mark_under sigma) table.marks mark has in
        subst (λ (m : Mark). IsKept problem (steps_under table sigma) (suc k) m) from.2
        (All-at (λ m. IsKept problem (steps_under table sigma) (suc k) (mark_under sigma m)) table.marks from.0 proper from.1)

    pub tail-carries : Carries problem (kernel_under table sigma (suc k)) (drop k (steps_under table sigma)) table.goal_variable_count
        (goal_under table sigma)
    tail-carries = record {
      meets = λ state later run facts.
          carry_meets problem (steps_under table sigma) table.goal_variable_count (goal_under table sigma) Instances carried
          (drop k (steps_under table sigma)) later k state refl (kernel_holds state facts) kept_here run;
      ends = λ state later run facts long.
          carry_ends problem (steps_under table sigma) table.goal_variable_count (goal_under table sigma) Instances carried
          (drop k (steps_under table sigma)) later k state
          (omega (arith, length-map table.steps (instance_under sigma))) refl (kernel_holds state facts) kept_here run long;
    }

-- the steps from any one on
pub tail_carries : (problem : Problem) (table : Table) (sigma : List ℕ) (i : ℕ) → IsTable problem table
    → IsInstantiation problem table sigma → 1 ≤ i → i ≤ length table.steps + 1
    → IsProper problem table sigma i → TailCarries problem table sigma i
tail_carries problem table sigma zero is_table given low high proper = absurd (omega (arith, low))
tail_carries problem table sigma (suc k) is_table given low high proper =
    let before : k ≡ suc k - 1 = omega arith in
    subst (λ n. Carries problem (kernel_under table sigma (suc k)) (drop n (steps_under table sigma)) table.goal_variable_count
    (goal_under table sigma)) before
    (tail-carries problem table is_table sigma given k (omega (arith, high)) proper)

pub kernels_carry : (problem : Problem) (table : Table) → IsTable problem table → KernelsCarry problem table
kernels_carry problem table is_table = record {
  carry = λ sigma given i low high proper. tail_carries problem table sigma i is_table given
      low high proper;
}

pub rows_meet_preconditions : RowsMeetPreconditions
rows_meet_preconditions problem table sigma row inst state is_table given at is axioms marks =
    rows_here problem table is_table sigma given row inst state at is axioms
    (λ mark has e.
    let from = Contains-from_map (mark_under sigma) table.marks mark has in
    subst (λ (m : Mark). Holds state m.atom) from.2 (marks from.0 from.1 (ap (λ (m : Mark). m.row) from.2 ∙ e)))
