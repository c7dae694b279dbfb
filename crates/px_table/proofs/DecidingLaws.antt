-- The test of tables decides.
use Rattle.std.proofs.Common.{◌≡◌, ℕ, zero, suc, ◌+◌, ◌<◌, true, false, Some, None, List, [], ◌∷◌, ◌++◌, length, map, slice_get, refl, sym, ap, ◌∙◌, subst, inl, inr, arith, eq-eqb}
use borrow.Author.Tests.{eqb-true}
use Rattle.std.specs.Prelude.{Bool, ◌&&◌, ◌||◌, ◌==◌, Option, ◌≤◌, cond, nat_le, not, slice_index, slice_index_or, All, Contains}
use Rattle.std.specs.Bool.{Decides}
use Rattle.std.specs.List.{list_all, list_any}
use Rattle.std.specs.Cmp.Lexicographic.{pointwise_decides}
use Rattle.std.proofs.lemmas.Bool.Decides.{Decides-and, Decides-like, Decides-eqb, Decides-ltb, Decides-by_and, leb_tells}
use Rattle.px_base.specs.Bounds.{u32_max}
use Rattle.px_base.specs.ListLaws.{Contains-none, Contains-first, Contains-later, Contains-cases}
use Rattle.px_terms.specs.declared.atom.Atom.{Atom}
use Rattle.px_terms.specs.declared.clause.Clause.{Clause}
use Rattle.px_terms.specs.declared.clause.Lit.{Lit}
use Rattle.px_terms.specs.declared.instance.OpInst.{OpInst}
use Rattle.px_terms.specs.declared.problem.Problem.{Problem}
use Rattle.px_terms.specs.declared.term.Term.{Term}
use Rattle.px_terms.specs.declared.term.Term.TheVariants.{Obj, Var, Any}
use Rattle.px_terms.specs.Operators.{adds, precondition, schema_of}
use Rattle.px_terms.specs.Order.{atom_eq}
use Rattle.px_terms.specs.OrderLaws.{atom_eq-decides}
use Rattle.px_terms.specs.Substitution.{substitute_atom}
use Rattle.px_terms.specs.Sorts.{FitsSort, IsOfSort, MayStand}
use Rattle.px_terms.specs.Validity.{AreSortsOf, IsAtomOf, IsTermOf}
use Rattle.px_proof.specs.declared.proof.Proof.{Proof}
use Rattle.px_proof.specs.Derivation.{Derivation, Derivations, fact, ancestor, step, gap, open_place, none, also, leaf_atoms, leaves_of}
use Rattle.px_proof.specs.Literals.{complement_of, positive_of}
use Rattle.px_base.specs.Answers.{some_same}
use Rattle.px_proof.specs.PlaceLaws.{slice_get-read, slice_get-within}
use Rattle.px_proof.specs.Proves.{IsObjectOrParameter, Proves, ProvesEach, from_atoms, instance_of, parts_of}
use Rattle.px_table.specs.declared.mark.Mark.{Mark}
use Rattle.px_table.specs.declared.table.Table.{Table}
use Rattle.px_table.specs.Choices.{atom_by}
use Rattle.px_table.specs.Deciding.{TablesAreDecided, atom_or_no_atom, clause_at, conclusion_of, is_adder, are_in_range, are_well_sorted, is_atom_of, is_object_or_parameter, is_named, is_of_sort, is_proof_of, is_source, is_step_of, is_table, is_term_of, is_there, is_well_sorted_step, lit_eq, proves, proves_all, proves_each_of, proves_goal, rows_are_table, rows_prove}
use Rattle.px_table.specs.MarkLaws.{mark_eq-decides}
use Rattle.px_table.specs.Marks.{IsNamed, marks_from, step_at}
use Rattle.px_table.specs.Supports.{IsProofOf, ProvesEachOf, ProvesGoal, RowsProve, variables}
use Rattle.px_table.specs.Tables.{IsStepOf, IsTable, rows_of, table_of_rows}
use Rattle.px_table.specs.WellSorted.{IsWellSortedStep, paired}
use Rattle.px_table.proofs.Choosing.{choices_give, made_by_choices}

-- ---- tests of lists and options

all-decides : {X : Type 0} (p : X → Bool) (P : X → Type 0) → ((x : X) → Decides (p x) (P x)) → (xs : List X)
    → Decides (list_all p xs) (All P xs)
all-decides p P each xs = Decides-by_and p P (list_all p) each refl (λ x ys. refl) xs

any-decides : (atom : Atom) (atoms : List Atom) → Decides (list_any (atom_eq atom) atoms) (Contains atoms atom)
any-decides atom [] = (λ h. absurd (cc), λ has. absurd (Contains-none atom has))
any-decides atom (a ∷ atoms) =
    elim (atom_eq atom a) as (λ b. atom_eq atom a ≡ b → Decides (b || list_any (atom_eq atom) atoms) (Contains (a ∷ atoms) atom)) [
      | true ↦ λ same. (
        λ _. subst (λ x. Contains (x ∷ atoms) atom) ((atom_eq-decides atom a).0 same) (Contains-first atom atoms),
        λ _. refl,
      )
      | false ↦ λ other. (
        λ h. Contains-later a atoms atom ((any-decides atom atoms).0 h),
        λ has. elim (Contains-cases a atoms atom has) [
          | inl is ↦ absurd (let e = (atom_eq-decides atom a).1 (sym is) in cc)
          | inr later ↦ (any-decides atom atoms).1 later
        ],
      )
    ] refl

there-decides : {A : Type 0} (same : A → A → Bool) → ((x y : A) → Decides (same x y) (x ≡ y)) → (o : Option A) (x : A)
    → Decides (is_there same o x) (o ≡ Some x)
there-decides same each None x = (λ h. absurd (cc), λ h. absurd (cc))
there-decides same each (Some y) x = Decides-like (same y x) (λ e. ap Some e) (λ e. some_same e) (each y x)

-- the second test is only asked where the first holds
and-decides : {P Q : Type 0} (x y : Bool) → Decides x P → (P → Decides y Q) → Decides (x && y) (P × Q)
and-decides true y d k = (λ e. (d.0 refl, (k (d.0 refl)).0 e), λ h. (k h.0).1 h.1)
and-decides false y d k = (λ e. absurd (cc), λ h. d.1 h.0)

-- ---- numbers in range

term-decides : (problem : Problem) (variable_count : ℕ) (t : Term) → Decides (is_term_of problem variable_count t) (IsTermOf problem variable_count t)
term-decides problem variable_count (Obj n) = Decides-ltb n problem.objects
term-decides problem variable_count (Var v) = Decides-ltb v variable_count
term-decides problem variable_count Any = (λ h. absurd (cc), λ h. absurd h)

pub atom-decides : (problem : Problem) (variable_count : ℕ) (atom : Atom) → Decides (is_atom_of problem variable_count atom) (IsAtomOf problem variable_count atom)
atom-decides problem variable_count atom =
    Decides-and _ _ (Decides-and _ _ (Decides-ltb atom.pred (length problem.arities))
    (Decides-eqb (length atom.args) (slice_index problem.arities atom.pred)))
    (all-decides (is_term_of problem variable_count) (IsTermOf problem variable_count) (term-decides problem variable_count) atom.args)

step-decides : (problem : Problem) (params : ℕ) (inst : OpInst) → Decides (is_step_of problem params inst) (IsStepOf problem params inst)
step-decides problem params inst =
    Decides-like (is_step_of problem params inst) (λ h. record { op = h.0; count = h.1.0; terms = h.1.1 })
    (λ is. (is.op, (is.count, is.terms)))
    (Decides-and _ _ (Decides-ltb inst.op (length problem.schemas))
    (Decides-and _ _ (Decides-eqb (length inst.args) (schema_of problem inst).params)
    (all-decides (is_term_of problem params) (IsTermOf problem params) (term-decides problem params) inst.args)))

range-decides : (problem : Problem) (params : ℕ) (steps : List OpInst) (goal : List Atom) (goal_variable_count : ℕ)
    → Decides (are_in_range problem params steps goal goal_variable_count)
    ((length steps < u32_max) × (All (IsStepOf problem params) steps × All (IsAtomOf problem (params + goal_variable_count)) goal))
range-decides problem params steps goal goal_variable_count =
    Decides-and _ _ (Decides-ltb (length steps) u32_max)
    (Decides-and _ _ (all-decides (is_step_of problem params) (IsStepOf problem params) (step-decides problem params) steps)
    (all-decides (is_atom_of problem (params + goal_variable_count)) (IsAtomOf problem (params + goal_variable_count))
    (atom-decides problem (params + goal_variable_count)) goal))

-- ---- sorts

-- a place without a sort takes anything
fits-decides : (sorts : List ℕ) (wanted object : ℕ) → Decides ((wanted == 0) || (slice_index sorts object == wanted))
    (FitsSort sorts wanted object)
fits-decides sorts wanted object =
    elim (wanted == 0) as (λ b. (wanted == 0) ≡ b → Decides (b || (slice_index sorts object == wanted)) (FitsSort sorts wanted object)) [
      | true ↦ λ none. (λ _ sorted. absurd (sorted (eqb-true wanted 0 none)), λ _. refl)
      | false ↦ λ some. (
        λ same _. eqb-true (slice_index sorts object) wanted same,
        λ fits. eq-eqb (slice_index sorts object) wanted (fits (λ none. let e = eq-eqb wanted 0 none in absurd (cc))),
      )
    ] refl

sort-decides : (sorts params : List ℕ) (wanted : ℕ) (t : Term) → Decides (is_of_sort sorts params wanted t) (IsOfSort sorts params wanted t)
sort-decides sorts params wanted (Obj n) = fits-decides sorts wanted n
sort-decides sorts params wanted (Var v) = fits-decides params wanted v
sort-decides sorts params wanted Any = (λ h. tt, λ h. refl)

-- a place past the end of the sorts has none
stands-nowhere : (sorts params : List ℕ) (t : Term) → IsOfSort sorts params 0 t
stands-nowhere sorts params (Obj n) = λ sorted. absurd (sorted refl)
stands-nowhere sorts params (Var v) = λ sorted. absurd (sorted refl)
stands-nowhere sorts params Any = tt

stands-decides : (sorts params wanted : List ℕ) (args : List Term)
    → Decides (list_all (λ (place : ℕ × Term). is_of_sort sorts params place.0 place.1) (paired wanted args)) (MayStand sorts params wanted args)
stands-decides sorts params [] args = (λ _ k below. stands-nowhere sorts params (slice_index_or args k Any), λ _. refl)
stands-decides sorts params (w ∷ wanted) [] = (λ _ k below. absurd (omega (arith, below)), λ _. refl)
stands-decides sorts params (w ∷ wanted) (t ∷ args) =
    Decides-like _ together apart (Decides-and _ _ (sort-decides sorts params w t) (stands-decides sorts params wanted args))
  where
    together : IsOfSort sorts params w t × MayStand sorts params wanted args → MayStand sorts params (w ∷ wanted) (t ∷ args)
    together h zero below = h.0
    together h (suc k) below = h.1 k (omega (arith, below))

    apart : MayStand sorts params (w ∷ wanted) (t ∷ args) → IsOfSort sorts params w t × MayStand sorts params wanted args
    apart all = (all 0 (omega arith), λ k below. all (suc k) (omega (arith, below)))

at_most-decides : (a b : ℕ) → Decides (nat_le a b) (a ≤ b)
at_most-decides a b = elim (leb_tells a b) [
  | inl less ↦ (λ _. less.1, λ _. less.0)
  | inr more ↦ (λ h. let e = sym h ∙ more.0 in absurd (cc), λ h. absurd (omega (arith, h, more.1)))
]

sorts-decide : (problem : Problem) (params : ℕ) (param_sorts : List ℕ) (steps : List OpInst)
    → Decides (are_well_sorted problem params param_sorts steps)
    ((length param_sorts ≡ params) × (AreSortsOf problem param_sorts × All (IsWellSortedStep problem param_sorts) steps))
sorts-decide problem params param_sorts steps =
    Decides-and _ _ (Decides-eqb (length param_sorts) params)
    (Decides-and _ _ (all-decides (λ (sort : ℕ). nat_le sort problem.sorts) (λ sort. sort ≤ problem.sorts)
    (λ sort. at_most-decides sort problem.sorts) param_sorts)
    (all-decides (is_well_sorted_step problem param_sorts) (IsWellSortedStep problem param_sorts)
    (λ inst. stands-decides problem.object_sorts param_sorts (schema_of problem inst).param_sorts inst.args) steps))

-- ---- proofs

name-decides : (objects params : ℕ) (t : Term) → Decides (is_object_or_parameter objects params t) (IsObjectOrParameter objects params t)
name-decides objects params (Obj n) = Decides-ltb n objects
name-decides objects params (Var v) = Decides-ltb v params
name-decides objects params Any = (λ h. absurd (cc), λ h. absurd h)

sign-decides : (a b : Bool) → Decides (cond a b (not b)) (a ≡ b)
sign-decides true b = (λ h. sym h, λ h. sym h)
sign-decides false true = (λ h. absurd (cc), λ h. absurd (cc))
sign-decides false false = (λ h. refl, λ h. refl)

lit-decides : (first second : Lit) → Decides (lit_eq first second) (first ≡ second)
lit-decides a b =
    Decides-like (lit_eq a b) (λ e i. record { positive = e.0 i; atom = e.1 i })
    (λ e. (ap (λ (l : Lit). l.positive) e, ap (λ (l : Lit). l.atom) e))
    (Decides-and _ _ (sign-decides a.positive b.positive) (atom_eq-decides a.atom b.atom))

module _ (objects params : ℕ) (axioms : List Clause) where
  names-decide : (ts : List Term) → Decides (list_all (is_object_or_parameter objects params) ts)
      (All (IsObjectOrParameter objects params) ts)
  names-decide = all-decides (is_object_or_parameter objects params) (IsObjectOrParameter objects params) (name-decides objects params)

  module _ (atoms : List Atom) where
    -- what is to hold of the clause of a step
    abbrev Fits : List Lit → Lit → List Term → ℕ → Derivations → Clause → Type 0
    Fits path lit theta place parts clause =
        (length theta ≡ clause.variable_count) × (All (IsObjectOrParameter objects params) theta
        × ((slice_get (instance_of clause.lits theta) place ≡ Some lit)
        × ProvesEach (from_atoms (IsObjectOrParameter objects params) atoms) axioms (lit ∷ path) (parts_of clause.lits theta place) parts))

    fits_used : (path : List Lit) (lit : Lit) (number : ℕ) (theta : List Term) (place : ℕ) (parts : Derivations)
        → (number < length axioms) × Fits path lit theta place parts (clause_at axioms number)
        → Proves (from_atoms (IsObjectOrParameter objects params) atoms) axioms path lit (step number theta place parts)
    fits_used path lit number theta place parts h = (
      clause_at axioms number,
      record {
        axiom_at = slice_get-read axioms number (record { variable_count = 0; lits = [] }) h.0;
        terms = h.1.0;
        choices = h.1.1.0;
        literal_at = h.1.1.1.0;
      },
      h.1.1.1.1,
    )

    used_fits : (path : List Lit) (lit : Lit) (number : ℕ) (theta : List Term) (place : ℕ) (parts : Derivations)
        → Proves (from_atoms (IsObjectOrParameter objects params) atoms) axioms path lit (step number theta place parts)
        → (number < length axioms) × Fits path lit theta place parts (clause_at axioms number)
    used_fits path lit number theta place parts used =
        let within = slice_get-within axioms number used.0 used.1.axiom_at in
        let same : used.0 ≡ clause_at axioms number =
        some_same (sym used.1.axiom_at ∙ slice_get-read axioms number (record { variable_count = 0; lits = [] }) within) in
        (within, subst (Fits path lit theta place parts) same (used.1.terms, (used.1.choices, (used.1.literal_at, used.2))))

    mutual
      proves-decides : (path : List Lit) (lit : Lit) (d : Derivation)
          → Decides (proves objects params axioms atoms path lit d)
          (Proves (from_atoms (IsObjectOrParameter objects params) atoms) axioms path lit d)
      proves-decides path lit (fact leaf) =
          Decides-and _ _ (lit-decides lit (positive_of leaf.atom))
          (Decides-and _ _ (any-decides leaf.atom atoms) (names-decide leaf.atom.args))
      proves-decides path lit (ancestor i) = there-decides lit_eq lit-decides (slice_get path i) (complement_of lit)
      proves-decides path lit (step number theta place parts) =
          Decides-like (proves objects params axioms atoms path lit (step number theta place parts))
          (fits_used path lit number theta place parts) (used_fits path lit number theta place parts)
          (Decides-and _ _ (Decides-ltb number (length axioms))
          (Decides-and _ _ (Decides-eqb (length theta) (clause_at axioms number).variable_count) (Decides-and _ _ (names-decide theta)
          (Decides-and _ _ (there-decides lit_eq lit-decides (slice_get (instance_of (clause_at axioms number).lits theta) place) lit)
          (proves_all-decides (lit ∷ path) (parts_of (clause_at axioms number).lits theta place) parts)))))
      proves-decides path lit (gap atom) = (λ h. absurd (cc), λ h. absurd h.1)
      proves-decides path lit open_place = (λ h. absurd (cc), λ h. absurd h)

      proves_all-decides : (path lits : List Lit) (ds : Derivations)
          → Decides (proves_all objects params axioms atoms path lits ds)
          (ProvesEach (from_atoms (IsObjectOrParameter objects params) atoms) axioms path lits ds)
      proves_all-decides path [] none = (λ h. tt, λ h. refl)
      proves_all-decides path (lit ∷ lits) (also d ds) = Decides-and _ _ (proves-decides path lit d) (proves_all-decides path lits ds)
      proves_all-decides path [] (also d ds) = (λ h. absurd (cc), λ h. absurd h)
      proves_all-decides path (lit ∷ lits) none = (λ h. absurd (cc), λ h. absurd h)

  proof-decides : (atom : Atom) (d : Derivation)
      → Decides (is_proof_of objects params axioms atom d) (IsProofOf (IsObjectOrParameter objects params) axioms atom d)
  proof-decides atom d =
      Decides-like (is_proof_of objects params axioms atom d) (λ h. record { proves = h.0; terms = h.1 }) (λ is. (is.proves, is.terms))
      (Decides-and _ _ (proves-decides (leaf_atoms (leaves_of d)) [] (positive_of atom) d) (names-decide atom.args))

  each-decides : (atoms : List Atom) (row : List Derivation)
      → Decides (proves_each_of objects params axioms atoms row) (ProvesEachOf (IsObjectOrParameter objects params) axioms atoms row)
  each-decides [] [] = (λ h. tt, λ h. refl)
  each-decides [] (d ∷ row) = (λ h. absurd (cc), λ h. absurd h)
  each-decides (atom ∷ atoms) [] = (λ h. absurd (cc), λ h. absurd h)
  each-decides (atom ∷ atoms) (d ∷ row) = Decides-and _ _ (proof-decides atom d) (each-decides atoms row)

  -- ---- the goal

  conclusion-is : (facts : List Atom) (atom : Atom) (d : Derivation)
      → Proves (from_atoms (IsObjectOrParameter objects params) facts) axioms [] (positive_of atom) d → conclusion_of axioms d ≡ atom
  conclusion-is facts atom (fact leaf) proved = sym (ap (λ (l : Lit). l.atom) proved.0)
  conclusion-is facts atom (ancestor i) proved = absurd (cc)
  conclusion-is facts atom (step number theta place parts) proved =
      let fits = used_fits facts [] (positive_of atom) number theta place parts proved in
      ap (atom_or_no_atom) fits.1.1.1.0
  conclusion-is facts atom (gap a) proved = absurd proved.1
  conclusion-is facts atom open_place proved = absurd proved

  conclusions-are : (atoms : List Atom) (row : List Derivation) → ProvesEachOf (IsObjectOrParameter objects params) axioms atoms row
      → map (conclusion_of axioms) row ≡ atoms
  conclusions-are [] [] each = refl
  conclusions-are [] (d ∷ row) each = absurd each
  conclusions-are (atom ∷ atoms) [] each = absurd each
  conclusions-are (atom ∷ atoms) (d ∷ row) each =
      cc (conclusion-is (leaf_atoms (leaves_of d)) atom d each.0.proves, conclusions-are atoms row each.1)

  module _ (problem : Problem) (goal_variable_count : ℕ) (goal : List Atom) (in_range : All (IsAtomOf problem (params + goal_variable_count)) goal) where
    abbrev Concluded : List Derivation → Type 0
    Concluded row = ProvesEachOf (IsObjectOrParameter objects params) axioms (map (conclusion_of axioms) row) row
        × (map (atom_by params goal (map (conclusion_of axioms) row)) goal ≡ map (conclusion_of axioms) row)

    goal_from : (row : List Derivation) → Concluded row → ProvesGoal (IsObjectOrParameter objects params) axioms params goal goal_variable_count row
    goal_from row h =
        let made = made_by_choices problem params goal_variable_count goal in_range (map (conclusion_of axioms) row) h.1 in
        (made.0, made.1, subst (λ (atoms : List Atom). ProvesEachOf (IsObjectOrParameter objects params) axioms atoms row) (sym made.2) h.0)

    goal_gives : (row : List Derivation) → ProvesGoal (IsObjectOrParameter objects params) axioms params goal goal_variable_count row → Concluded row
    goal_gives row proved =
        let given : List Atom = map (substitute_atom (variables params ++ proved.0)) goal in
        let same : map (conclusion_of axioms) row ≡ given = conclusions-are given row proved.2 in
        subst (λ (atoms : List Atom). ProvesEachOf (IsObjectOrParameter objects params) axioms atoms row
        × (map (atom_by params goal atoms) goal ≡ atoms)) (sym same)
        (proved.2, choices_give problem params goal_variable_count goal in_range proved.0)

    goal-decides : (row : List Derivation)
        → Decides (proves_goal objects params axioms goal row)
        (ProvesGoal (IsObjectOrParameter objects params) axioms params goal goal_variable_count row)
    goal-decides row =
        Decides-like (proves_goal objects params axioms goal row) (goal_from row) (goal_gives row)
        (Decides-and _ _ (each-decides (map (conclusion_of axioms) row) row)
        (pointwise_decides atom_eq-decides (map (atom_by params goal (map (conclusion_of axioms) row)) goal)
        (map (conclusion_of axioms) row)))

rows-decide : (problem : Problem) (params goal_variable_count : ℕ) (goal : List Atom) → All (IsAtomOf problem (params + goal_variable_count)) goal
    → (steps : List OpInst) (rows : List (List Derivation))
    → Decides (rows_prove problem.objects params problem.axioms problem steps goal rows)
    (RowsProve (IsObjectOrParameter problem.objects params) problem params steps goal goal_variable_count rows)
rows-decide problem params goal_variable_count goal in_range [] [] = (λ h. absurd (cc), λ h. absurd h)
rows-decide problem params goal_variable_count goal in_range [] (row ∷ []) =
    goal-decides problem.objects params problem.axioms problem goal_variable_count goal in_range row
rows-decide problem params goal_variable_count goal in_range [] (row ∷ second ∷ rows) = (λ h. absurd (cc), λ h. absurd h)
rows-decide problem params goal_variable_count goal in_range (inst ∷ steps) [] = (λ h. absurd (cc), λ h. absurd h)
rows-decide problem params goal_variable_count goal in_range (inst ∷ steps) (row ∷ rows) =
    Decides-and _ _ (each-decides problem.objects params problem.axioms (precondition problem inst) row)
    (rows-decide problem params goal_variable_count goal in_range steps rows)

-- ---- marks

-- the column is the initial model, or a step that adds the atom
abbrev IsSource : Problem → List OpInst → ℕ → ℕ → Atom → Type 0
IsSource problem steps column index atom =
    (column ≡ 0 → index ≡ 0) × (0 < column
    → (inst : OpInst) × (step_at steps column ≡ Some inst) × (slice_get (adds problem inst) index ≡ Some atom))

adder-decides : (problem : Problem) (index : ℕ) (atom : Atom) (o : Option OpInst)
    → Decides (is_adder problem index atom o) ((inst : OpInst) × (o ≡ Some inst) × (slice_get (adds problem inst) index ≡ Some atom))
adder-decides problem index atom None = (λ h. absurd (cc), λ h. absurd (let e = h.1 in cc))
adder-decides problem index atom (Some inst) =
    Decides-like (is_adder problem index atom (Some inst)) (λ e. (inst, refl, e))
    (λ h. subst (λ (x : OpInst). slice_get (adds problem x) index ≡ Some atom) (sym (some_same h.1)) h.2)
    (there-decides atom_eq atom_eq-decides (slice_get (adds problem inst) index) atom)

source-decides : (problem : Problem) (steps : List OpInst) (column index : ℕ) (atom : Atom)
    → Decides (is_source problem steps column index atom) (IsSource problem steps column index atom)
source-decides problem steps zero index atom =
    Decides-like (index == 0) (λ e. (λ _. e, λ later. absurd (omega (arith, later)))) (λ is. is.0 refl) (Decides-eqb index 0)
source-decides problem steps (suc k) index atom =
    Decides-like (is_adder problem index atom (slice_get steps k)) (λ h. (λ e. absurd (omega (arith, e)), λ _. h))
    (λ is. is.1 (omega arith)) (adder-decides problem index atom (slice_get steps k))

named-decides : (problem : Problem) (steps : List OpInst) (mark : Mark) → Decides (is_named problem steps mark) (IsNamed problem steps mark)
named-decides problem steps mark =
    Decides-like (is_named problem steps mark) (λ h. record { earlier = h.0; initial = h.1.0; added = h.1.1 })
    (λ is. (is.earlier, (is.initial, is.added)))
    (Decides-and _ _ (Decides-ltb mark.column mark.row) (source-decides problem steps mark.column mark.index mark.atom))

-- ---- tables

-- what the test of rows tells, and all of it
abbrev AreTable : Problem → ℕ → List ℕ → List OpInst → List Atom → ℕ → List (List Derivation) → Type 0
AreTable problem params param_sorts steps goal goal_variable_count rows =
    ((length steps < u32_max) × (All (IsStepOf problem params) steps × All (IsAtomOf problem (params + goal_variable_count)) goal))
    × (((length param_sorts ≡ params) × (AreSortsOf problem param_sorts × All (IsWellSortedStep problem param_sorts) steps))
    × (RowsProve (IsObjectOrParameter problem.objects params) problem params steps goal goal_variable_count rows
    × (All (λ (mark : Mark). IsAtomOf problem params mark.atom) (marks_from 1 rows) × All (IsNamed problem steps) (marks_from 1 rows))))

rows_are_table-decides : (problem : Problem) (params : ℕ) (param_sorts : List ℕ) (steps : List OpInst) (goal : List Atom) (goal_variable_count : ℕ)
    (rows : List (List Derivation)) → Decides (rows_are_table problem params param_sorts steps goal goal_variable_count rows)
    (AreTable problem params param_sorts steps goal goal_variable_count rows)
rows_are_table-decides problem params param_sorts steps goal goal_variable_count rows =
    and-decides _ _ (range-decides problem params steps goal goal_variable_count) (λ range.
    Decides-and _ _ (sorts-decide problem params param_sorts steps)
    (Decides-and _ _ (rows-decide problem params goal_variable_count goal range.1.1 steps rows)
    (Decides-and _ _ (all-decides (λ (mark : Mark). is_atom_of problem params mark.atom) (λ (mark : Mark). IsAtomOf problem params mark.atom)
    (λ mark. atom-decides problem params mark.atom) (marks_from 1 rows))
    (all-decides (is_named problem steps) (IsNamed problem steps) (named-decides problem steps) (marks_from 1 rows)))))

-- with the marks of its rows it is a table
abbrev RowsOfTable : Problem → Table → Type 0
RowsOfTable problem table =
    AreTable problem table.params table.param_sorts table.steps table.goal table.goal_variable_count (rows_of table.proofs)

table-from : (problem : Problem) (table : Table) → RowsOfTable problem table → table.marks ≡ marks_from 1 (rows_of table.proofs)
    → IsTable problem table
table-from problem table h marks = record {
  in_range = record { short = h.0.0; steps = h.0.1.0; goal = h.0.1.1 };
  prove = h.1.1.0;
  marks = marks;
  atoms = subst (All (λ (mark : Mark). IsAtomOf problem table.params mark.atom)) (sym marks) h.1.1.1.0;
  named = subst (All (IsNamed problem table.steps)) (sym marks) h.1.1.1.1;
  sorted = record { count = h.1.0.0; sorts = h.1.0.1.0; steps = h.1.0.1.1 };
}

table-gives : (problem : Problem) (table : Table) → IsTable problem table → RowsOfTable problem table
table-gives problem table is = (
  (is.in_range.short, (is.in_range.steps, is.in_range.goal)),
  (
    (is.sorted.count, (is.sorted.sorts, is.sorted.steps)),
    (
      is.prove,
      (
        subst (All (λ (mark : Mark). IsAtomOf problem table.params mark.atom)) is.marks is.atoms,
        subst (All (IsNamed problem table.steps)) is.marks is.named,
      ),
    ),
  ),
)

pub tables_are_decided : TablesAreDecided
tables_are_decided problem table =
    Decides-like (is_table problem table) (λ h. table-from problem table h.0 h.1) (λ is. (table-gives problem table is, is.marks))
    (Decides-and _ _ (rows_are_table-decides problem table.params table.param_sorts table.steps table.goal table.goal_variable_count
    (rows_of table.proofs)) (pointwise_decides mark_eq-decides table.marks (marks_from 1 (rows_of table.proofs))))

-- the test of rows is true exactly where the table of the rows is one
pub rows_are_decided : (problem : Problem) (params : ℕ) (param_sorts : List ℕ) (steps : List OpInst) (goal : List Atom) (goal_variable_count : ℕ)
    (rows : List (List Proof)) → Decides (rows_are_table problem params param_sorts steps goal goal_variable_count (rows_of rows))
    (IsTable problem (table_of_rows params param_sorts steps goal goal_variable_count rows))
rows_are_decided problem params param_sorts steps goal goal_variable_count rows =
    Decides-like (rows_are_table problem params param_sorts steps goal goal_variable_count (rows_of rows))
    (λ h. table-from problem (table_of_rows params param_sorts steps goal goal_variable_count rows) h refl)
    (table-gives problem (table_of_rows params param_sorts steps goal goal_variable_count rows))
    (rows_are_table-decides problem params param_sorts steps goal goal_variable_count (rows_of rows))
