-- Each support of the plan's shape is a proper instance of the general table.
use Rattle.std.specs.Prelude.{◌≡◌, ◌+◌, ◌<◌, ◌≤◌, ℕ, Some, List, [], ◌∷◌, ◌++◌, map, length, flat_map, count_by, slice_get, slice_index_or, All, Contains}
use Rattle.std.proofs.Common.{refl, sym, ap, ◌∙◌, subst, inl, inr, arith}
use Rattle.std.proofs.lemmas.List.{length-map}
use Rattle.std.proofs.lemmas.List.Elements.{All-head, All-tail, Contains-append_left, Contains-append_right, Contains-append_cases}
use Rattle.std.proofs.lemmas.List.Sums.{sum_by-cons}
use Rattle.px_base.specs.ListLaws.{All-at, All-each}
use Rattle.px_terms.specs.declared.atom.Atom.{Atom}
use Rattle.px_terms.specs.declared.instance.OpInst.{OpInst}
use Rattle.px_terms.specs.declared.problem.Problem.{Problem}
use Rattle.px_terms.specs.declared.term.Term.{Term}
use Rattle.px_terms.specs.declared.term.Term.TheVariants.{Obj, Var, Any as WildCard}
use Rattle.px_terms.specs.Language.{substitute, IsObject}
use Rattle.px_terms.specs.Substitution.{substitute_atom, substitute_instance, variables_from}
use Rattle.px_terms.specs.Sorts.{IsWellSortedBy}
use Rattle.px_terms.specs.Validity.{IsAtomOf, IsTermOf, IsGroundInstanceOf}
use Rattle.px_proof.specs.Derivation.{Derivation, terms_of}
use Rattle.px_proof.specs.PlaceLaws.{All-prefix, All-back, Contains-mapped}
use Rattle.px_proof.specs.Proves.{IsObjectOrParameter}
use Rattle.px_proof.specs.Substitution.{derivation_under}
use Rattle.px_table.specs.declared.mark.Mark.{Mark}
use Rattle.px_table.specs.declared.table.Table.{Table}
use Rattle.px_table.specs.KernelLaws.{Contains-from_map, from_kernel}
use Rattle.px_table.specs.Kernels.{atom_under, goal_under, kernel_of, kernel_under, mark_under, rows_under, steps_under}
use Rattle.px_table.specs.Marks.{IsKept, marks_from}
use Rattle.px_table.specs.Supports.{Supports, variables}
use Rattle.px_table.specs.SupportShapes.{SupportShape, shape_of_support, without_object}
use Rattle.px_table.specs.Tables.{IsTable, rows_of}
use Rattle.px_table.specs.WellSortedLaws.{places-fit}
use Rattle.px_general.specs.General.{IsGeneralFor, IsTableInstance, shape_of_table}
use Rattle.px_replay.specs.FreshVariables.{is_object}
use Rattle.px_replay.specs.Opened.{goal_objects, named_args, named_goal, opened_terms, rows_opened, step_variables, steps_opened}
use Rattle.px_replay.proofs.GoalSteps.{read-variable}
use Rattle.px_general.specs.Replayed.{IsReplayed}
use Rattle.px_general.proofs.Assembling.{IsSolution, own_terms-solve, solution_terms}
use Rattle.px_general.proofs.Opening.{HasFrom, HasFrom-prefix, HasFrom-back, read-at}
use Rattle.px_general.proofs.Solving.{HasItsArguments, atom_without, count-object, count-variable, objects-counted, objects_among, objects_among-all, own_of_goal}
use Rattle.px_general.proofs.Under.{All-places, Agrees, marks-under, rows-agree, rows_terms-allowed, rows_terms-under, steps-agree, steps_terms-under}
use Rattle.px_general.proofs.Reading.{All-flat_map, cons_same, read-left, read-right, variables-have}

-- ---- objects

-- the object's number
abbrev pub number_of : Term → ℕ
number_of (Obj n) = n
number_of (Var v) = 0
number_of WildCard = 0

pub numbers-back : (ts : List Term) → All IsObject ts → map Obj (map number_of ts) ≡ ts
numbers-back [] all = refl
numbers-back (Obj n ∷ ts) all = ap (λ l. Obj n ∷ l) (numbers-back ts (All-tail IsObject (Obj n) ts all))
numbers-back (Var v ∷ ts) all = absurd (All-head IsObject (Var v) ts all)
numbers-back (WildCard ∷ ts) all = absurd (All-head IsObject WildCard ts all)

own_of_goal-are : (goal : List Atom) → All IsObject (own_of_goal goal)
own_of_goal-are goal =
    All-flat_map IsObject (λ (atom : Atom). objects_among atom.args) goal (λ a has. objects_among-all IsObject a.args (λ n there. tt))

steps_terms-objects : (problem : Problem) (steps : List OpInst) → All (IsGroundInstanceOf problem) steps
    → All IsObject (flat_map (λ (inst : OpInst). inst.args) steps)
steps_terms-objects problem steps all =
    All-flat_map IsObject (λ (inst : OpInst). inst.args) steps (λ s has. (All-at (IsGroundInstanceOf problem) steps s all has).all_objects)

-- ---- the goal

-- a name of fewer parameters doesn't see what follows them
pub name-read : (objects params : ℕ) (xs ys : List Term) (t : Term) → params ≤ length xs → IsObjectOrParameter objects params t
    → substitute (xs ++ ys) t ≡ substitute xs t
name-read objects params xs ys (Obj n) enough is = refl
name-read objects params xs ys (Var v) enough is = read-left xs ys v (omega (arith, enough, is))
name-read objects params xs ys WildCard enough is = absurd is

module _ (problem : Problem) (variable_count params : ℕ) (terms names values : List Term) (count : length values ≡ params) where
  -- at the variable the terms are the names under the values, and its name is one
  abbrev pub IsNamedAt : ℕ → Type 0
  IsNamedAt v = Agrees terms values names (Var v) × IsObjectOrParameter problem.objects params (substitute names (Var v))

  named_args-are : (first : ℕ) (ts us : List Term) → map without_object us ≡ map without_object ts → All (IsTermOf problem variable_count) ts
      → HasFrom terms first (objects_among us)
      → ((v : ℕ) → first ≤ v → v < first + count_by is_object ts → IsNamedAt v)
      → map (substitute (values ++ variables variable_count)) (named_args names params first ts) ≡ us
  named_args-are first [] [] same are has at = refl
  named_args-are first [] (u ∷ us) same are has at = absurd (cc)
  named_args-are first (t ∷ ts) [] same are has at = absurd (cc)
  named_args-are first (Obj n ∷ ts) (Obj m ∷ us) same are has at =
      let counted = count-object n ts in
      let here = at first (omega arith) (omega (arith, counted)) in
      let one : substitute terms (Var first) ≡ Obj m =
      read-at terms first (Obj m) (subst (λ (k : ℕ). slice_get terms k ≡ Some (Obj m)) (omega arith) (has 0 (Obj m) refl)) in
      let name = name-read problem.objects params values (variables variable_count) (substitute names (Var first)) (omega (arith, count)) here.1 in
      let head : substitute (values ++ variables variable_count) (substitute names (Var first)) ≡ Obj m = name ∙ sym here.0 ∙ one in
      let rest =
      named_args-are (first + 1) ts us (cons_same _ _ _ _ same).1 (All-tail (IsTermOf problem variable_count) (Obj n) ts are)
      (HasFrom-back terms first (first + 1) (Obj m ∷ []) (objects_among us) (omega arith) has)
      (λ v low high. at v (omega (arith, low)) (omega (arith, high, counted))) in
      λ i. head i ∷ rest i
  named_args-are first (Var v ∷ ts) (Var w ∷ us) same are has at =
      let same_var : w ≡ v = number (cons_same (Var w) (Var v) _ _ same).0 in
      let below : v < variable_count = All-head (IsTermOf problem variable_count) (Var v) ts are in
      let head : substitute (values ++ variables variable_count) (Var (params + v)) ≡ Var w =
      read-right values (variables variable_count) params v (sym count) ∙ read-variable 0 variable_count v below ∙ ap Var (omega (arith, same_var)) in
      let counted = count-variable v ts in
      let rest =
      named_args-are first ts us (cons_same _ _ _ _ same).1 (All-tail (IsTermOf problem variable_count) (Var v) ts are) has
      (λ x low high. at x low (omega (arith, high, counted))) in
      λ i. head i ∷ rest i
    where
      number : {v w : ℕ} → Var w ≡ Var v → w ≡ v
      number e = cc
  named_args-are first (WildCard ∷ ts) us same are has at = absurd (All-head (IsTermOf problem variable_count) WildCard ts are)
  named_args-are first (Obj n ∷ ts) (Var w ∷ us) same are has at = absurd (cc)
  named_args-are first (Obj n ∷ ts) (WildCard ∷ us) same are has at = absurd (cc)
  named_args-are first (Var v ∷ ts) (Obj m ∷ us) same are has at = absurd (cc)
  named_args-are first (Var v ∷ ts) (WildCard ∷ us) same are has at = absurd (cc)

  pub named_goal-is : (first : ℕ) (goal others : List Atom) → map atom_without others ≡ map atom_without goal
      → All (IsAtomOf problem variable_count) goal → HasFrom terms first (own_of_goal others)
      → ((v : ℕ) → first ≤ v → v < first + goal_objects goal → IsNamedAt v)
      → map (substitute_atom (values ++ variables variable_count)) (named_goal names params first goal) ≡ others
  named_goal-is first [] [] same are has at = refl
  named_goal-is first [] (o ∷ others) same are has at = absurd (cc)
  named_goal-is first (a ∷ goal) [] same are has at = absurd (cc)
  named_goal-is first (a ∷ goal) (o ∷ others) same are has at =
      let both = cons_same (atom_without o) (atom_without a) (map atom_without others) (map atom_without goal) same in
      let same_args = ap (λ (x : Atom). x.args) both.0 in
      let counted = sum_by-cons (λ (atom : Atom). count_by is_object atom.args) a goal in
      let args =
      named_args-are first a.args o.args same_args (All-head (IsAtomOf problem variable_count) a goal are).1
      (HasFrom-prefix terms first (objects_among o.args) (own_of_goal others) has)
      (λ v low high. at v low (omega (arith, high, counted))) in
      let rest = named_goal-is (first + count_by is_object a.args) goal others both.1 (All-tail (IsAtomOf problem variable_count) a goal are)
      (HasFrom-back terms first (first + count_by is_object a.args) (objects_among o.args) (own_of_goal others)
      (omega (arith, objects-counted a.args o.args same_args)) has)
      (λ v low high. at v (omega (arith, low)) (omega (arith, high, counted))) in
      λ i. record { pred = sym (ap (λ (x : Atom). x.pred) both.0) i; args = args i } ∷ rest i

-- ---- the opened plan under a solution

-- what holds of all terms of the steps, the goal and the proofs holds of those of the opened plan under the terms
pub own-all : (P : Term → Type 0) (problem : Problem) (plan : Table) (steps : List OpInst) (goal : List Atom)
    (rows : List (List Derivation)) (own : List Term) → IsSolution problem plan steps goal rows own
    → All P (flat_map (λ (inst : OpInst). inst.args) steps) → All P (own_of_goal goal) → All P (flat_map (flat_map terms_of) rows)
    → (t : Term) → Contains (opened_terms problem plan) t → P (substitute own t)
own-all P problem plan steps goal rows own solution of_steps of_goal of_rows t has =
    elim (Contains-append_cases (flat_map (λ (inst : OpInst). inst.args) (steps_opened plan)) _ t has) [
      | inl in_steps ↦
          All-at P (flat_map (λ (inst : OpInst). inst.args) steps) (substitute own t) of_steps
          (subst (λ (l : List Term). Contains l (substitute own t))
          (sym (steps_terms-under own (steps_opened plan)) ∙ ap (flat_map (λ (inst : OpInst). inst.args)) solution.steps_are)
          (Contains-mapped (substitute own) _ t in_steps))
      | inr later ↦ elim (Contains-append_cases (variables_from (step_variables plan.steps) (goal_objects plan.goal))
          (flat_map (flat_map terms_of) (rows_opened problem plan)) t later) [
            | inl in_goal ↦
                All-at P (own_of_goal goal) (substitute own t) of_goal
                (subst (λ (l : List Term). Contains l (substitute own t)) solution.objects_are
                (Contains-mapped (substitute own) _ t in_goal))
            | inr in_rows ↦
                All-at P (flat_map (flat_map terms_of) rows) (substitute own t) of_rows
                (subst (λ (l : List Term). Contains l (substitute own t))
                (sym (rows_terms-under own (rows_opened problem plan)) ∙ ap (flat_map (flat_map terms_of)) solution.rows_are)
                (Contains-mapped (substitute own) _ t in_rows))
          ]
    ]

-- ---- the instance

-- the steps, the goal and the proofs are the table's with these objects for its parameters
pub record AreUnder (table : Table) (objects : List ℕ) (steps : List OpInst) (goal : List Atom) (rows : List (List Derivation)) : Type 0
  where
    pub count : length objects ≡ table.params
    pub steps_are : steps ≡ steps_under table objects
    pub goal_is : goal ≡ goal_under table objects
    pub rows_are : rows ≡ rows_under table objects

-- Where terms make the opened plan these steps, this goal and these proofs, and all of them are objects, the general table is these with
-- the objects that the terms give the roots.
module _ (problem : Problem) (plan general : Table) (names roots : List Term) (is_table : IsTable problem plan)
    (no_params : plan.params ≡ 0) (replayed : IsReplayed problem plan general names roots)
    (steps : List OpInst) (goal : List Atom) (rows : List (List Derivation)) (own : List Term)
    (solution : IsSolution problem plan steps goal rows own) (same_goal : map atom_without goal ≡ map atom_without plan.goal)
    (own-objects : (t : Term) → Contains (opened_terms problem plan) t → IsObject (substitute own t)) where
  -- what the parameters stand for
  abbrev pub values : List Term
  values = map (substitute own) roots

  abbrev pub objects : List ℕ
  objects = map number_of values

  abbrev step_terms : List Term
  step_terms = flat_map (λ (inst : OpInst). inst.args) (steps_opened plan)

  abbrev goal_slots : List Term
  goal_slots = variables_from (step_variables plan.steps) (goal_objects plan.goal)

  abbrev row_terms : List Term
  row_terms = flat_map (flat_map terms_of) (rows_opened problem plan)

  agree : All (Agrees own values names) (opened_terms problem plan)
  agree = All-each (Agrees own values names) (opened_terms problem plan) (λ t has. replayed.most_general.factors own solution.equal t has)

  values-count : length values ≡ general.params
  values-count = length-map roots (substitute own) ∙ replayed.count

  -- what holds of all terms of the opened plan under the own terms holds of the values
  pub values-all : (P : Term → Type 0) → ((t : Term) → Contains (opened_terms problem plan) t → P (substitute own t)) → All P values
  values-all P each = All-places P values WildCard (λ v below.
      let used = replayed.used v (omega (arith, below, values-count)) in
      let value : substitute own used.0 ≡ slice_index_or values v WildCard =
      replayed.most_general.factors own solution.equal used.0 used.1 ∙ ap (substitute values) used.2 in
      subst P value (each used.0 used.1))

  values-are : map Obj objects ≡ values
  values-are = numbers-back values (values-all IsObject own-objects)

  steps-are : steps ≡ steps_under general objects
  steps-are =
      sym solution.steps_are ∙ steps-agree own values names (steps_opened plan)
      (All-prefix (Agrees own values names) step_terms (goal_slots ++ row_terms) agree)
      ∙ ap (λ l. map (substitute_instance l) (map (substitute_instance names) (steps_opened plan))) (sym values-are)
      ∙ ap (map (substitute_instance (map Obj objects))) (sym replayed.steps)

  rows-are : rows ≡ rows_under general objects
  rows-are =
      sym solution.rows_are ∙ rows-agree own values names (rows_opened problem plan)
      (All-back (Agrees own values names) goal_slots row_terms
      (All-back (Agrees own values names) step_terms (goal_slots ++ row_terms) agree))
      ∙ ap (λ l. map (map (derivation_under l)) (map (map (derivation_under names)) (rows_opened problem plan))) (sym values-are)
      ∙ ap (map (map (derivation_under (map Obj objects)))) (sym replayed.rows)

  slot-named : (v : ℕ) → step_variables plan.steps ≤ v → v < step_variables plan.steps + goal_objects plan.goal
      → IsNamedAt problem plan.goal_variable_count general.params own names values values-count v
  slot-named v low high =
      let has : Contains (opened_terms problem plan) (Var v) = Contains-append_right step_terms (goal_slots ++ row_terms) (Var v)
      (Contains-append_left goal_slots row_terms (Var v) (variables-have (step_variables plan.steps) (goal_objects plan.goal) v low high))
      in (
        replayed.most_general.factors own solution.equal (Var v) has,
        All-at (λ t. IsObjectOrParameter problem.objects general.params (substitute names t)) (opened_terms problem plan)
            (Var v) replayed.are_names has,
      )

  goal-is : goal ≡ goal_under general objects
  goal-is =
      let goal_are : All (IsAtomOf problem plan.goal_variable_count) plan.goal =
      subst (λ (n : ℕ). All (IsAtomOf problem n) plan.goal) (omega (arith, no_params)) is_table.in_range.goal in
      sym (named_goal-is problem plan.goal_variable_count general.params own names values values-count (step_variables plan.steps) plan.goal goal
      same_goal goal_are solution.objects slot-named)
      ∙ ap (λ l. map (substitute_atom (l ++ variables plan.goal_variable_count))
      (named_goal names general.params (step_variables plan.steps) plan.goal)) (sym values-are)
      ∙ ap (λ n. map (substitute_atom (map Obj objects ++ variables n))
      (named_goal names general.params (step_variables plan.steps) plan.goal)) (sym replayed.goal_variable_count)
      ∙ ap (map (substitute_atom (map Obj objects ++ variables general.goal_variable_count))) (sym replayed.goal)

  pub are-under : AreUnder general objects steps goal rows
  are-under =
      record { count = length-map values number_of ∙ values-count; steps_are = steps-are; goal_is = goal-is; rows_are = rows-are }

-- ---- of a support

module _ (problem : Problem) (plan general : Table) (names roots : List Term) (is_table : IsTable problem plan)
    (no_params : plan.params ≡ 0) (replayed : IsReplayed problem plan general names roots)
    (sorts : List ℕ) (atoms : List Atom) (steps : List OpInst) (goal : List Atom) (rows : List (List Derivation))
    (support : Supports problem atoms steps goal plan.goal_variable_count rows) (fit : All (IsWellSortedBy sorts problem) steps)
    (shape : shape_of_support steps goal rows ≡ shape_of_table plan) where
  have_arguments : All (HasItsArguments problem) steps
  have_arguments k d below = (support.instances k d below).count

  abbrev its_own : List Term
  its_own = solution_terms problem plan is_table no_params IsObject steps goal rows support.prove have_arguments support.named shape

  its_solution : IsSolution problem plan steps goal rows its_own
  its_solution = own_terms-solve problem plan is_table no_params IsObject steps goal rows support.prove have_arguments support.named shape

  its_goal : map atom_without goal ≡ map atom_without plan.goal
  its_goal = ap (λ (s : SupportShape). s.goal) shape

  its-objects : (t : Term) → Contains (opened_terms problem plan) t → IsObject (substitute its_own t)
  its-objects =
      own-all IsObject problem plan steps goal rows its_own its_solution (steps_terms-objects problem steps support.instances)
      (own_of_goal-are goal) (rows_terms-allowed IsObject problem 0 goal plan.goal_variable_count steps rows support.prove)

  abbrev its_objects : List ℕ
  its_objects =
      objects problem plan general names roots is_table no_params replayed steps goal rows its_own its_solution its_goal its-objects

  its : AreUnder general its_objects steps goal rows
  its = are-under problem plan general names roots is_table no_params replayed steps goal rows its_own its_solution its_goal its-objects

  -- the instance of each mark of the general table is a mark of the support
  mark-there : (mark : Mark) → Contains general.marks mark → Contains (marks_from 1 rows) (mark_under its_objects mark)
  mark-there mark has =
      subst (λ (r : List (List Derivation)). Contains (marks_from 1 r) (mark_under its_objects mark)) (sym its.rows_are)
      (marks-under (map Obj its_objects) 1 (rows_of general.proofs) mark (subst (λ (l : List Mark). Contains l mark) replayed.marks has))

  support-is_instance : IsTableInstance problem sorts general its_objects atoms steps goal rows
  support-is_instance = record {
    count = its.count;
    fitting =
        places-fit problem general sorts its_objects its.count replayed.sorts
        (subst (All (IsWellSortedBy sorts problem)) its.steps_are fit);
    proper = All-each (λ mark. IsKept problem (steps_under general its_objects) 1 (mark_under its_objects mark)) general.marks
        (λ mark has. subst (λ (l : List OpInst). IsKept problem l 1 (mark_under its_objects mark)) its.steps_are
        (All-at (IsKept problem steps 1) (marks_from 1 rows) (mark_under its_objects mark) support.kept (mark-there mark has)));
    steps_are = its.steps_are;
    goal_is = its.goal_is;
    rows_are = its.rows_are;
    kernel = All-each (Contains atoms) (kernel_under general its_objects 1)
        (λ atom has.
        let from = Contains-from_map (atom_under its_objects) (kernel_of general 1) atom has in
        let mark = from_kernel general 1 from.0 from.1 in
        subst (Contains atoms) (ap (atom_under its_objects) mark.2 ∙ from.2)
        (All-at (λ (m : Mark). m.column ≡ 0 → Contains atoms m.atom) (marks_from 1 rows) (mark_under its_objects mark.0) support.given
        (mark-there mark.0 mark.1) (omega (arith, mark.4))));
  }

pub general_for : (problem : Problem) (plan general : Table) (names roots : List Term) → IsTable problem plan → plan.params ≡ 0
    → IsReplayed problem plan general names roots → IsGeneralFor problem plan general
general_for problem plan general names roots is_table no_params replayed more atoms steps goal rows support fit shape =
    let sorts : List ℕ = problem.object_sorts ++ more in (
      its_objects problem plan general names roots is_table no_params replayed sorts atoms steps goal rows support fit shape,
      support-is_instance problem plan general names roots is_table no_params replayed sorts atoms steps goal rows support fit shape,
    )
