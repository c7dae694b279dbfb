-- Each instance of the general table has the plan's shape.
use Rattle.std.specs.Prelude.{◌≡◌, ◌+◌, ◌<◌, ◌≤◌, ℕ, List, [], ◌∷◌, ◌++◌, map, length, count_by, All}
use Rattle.std.proofs.Common.{refl, sym, ap, ◌∙◌, subst, arith}
use Rattle.std.proofs.lemmas.List.{length-map}
use Rattle.std.proofs.lemmas.List.Elements.{All-head, All-tail, Contains-append_left, Contains-append_right}
use Rattle.std.proofs.lemmas.List.Sums.{sum_by-cons}
use Rattle.px_base.specs.ListLaws.{All-at}
use Rattle.px_terms.specs.declared.atom.Atom.{Atom}
use Rattle.px_terms.specs.declared.instance.OpInst.{OpInst}
use Rattle.px_terms.specs.declared.problem.Problem.{Problem}
use Rattle.px_terms.specs.declared.term.Term.{Term}
use Rattle.px_terms.specs.declared.term.Term.TheVariants.{Obj, Var, Any as WildCard}
use Rattle.px_terms.specs.Language.{substitute, IsObject}
use Rattle.px_terms.specs.Substitution.{substitute_atom, substitute_instance, variables_from}
use Rattle.px_terms.specs.Sorts.{IsWellSortedBy}
use Rattle.px_terms.specs.Validity.{IsAtomOf, IsTermOf, IsValid}
use Rattle.px_proof.specs.Derivation.{Derivation, Derivations, fact, ancestor, step, gap, open_place, none, also, skeleton, skeletons}
use Rattle.px_proof.specs.Proves.{IsObjectOrParameter}
use Rattle.px_proof.specs.Substitution.{derivation_under}
use Rattle.px_proof.specs.SubstitutionLaws.{skeleton-under}
use Rattle.px_table.specs.declared.table.Table.{Table}
use Rattle.px_table.specs.Kernels.{goal_under, rows_under, steps_under}
use Rattle.px_table.specs.Supports.{Supports, variables}
use Rattle.px_table.specs.SupportShapes.{shape_of_support, without_object}
use Rattle.px_table.specs.Tables.{IsTable, rows_of}
use Rattle.px_table.specs.WellSortedLaws.{steps-fit}
use Rattle.px_general.specs.General.{shape_of_table, IsSoundFor}
use Rattle.px_replay.specs.FreshVariables.{fresh_in, is_object}
use Rattle.px_replay.specs.Opened.{goal_objects, named_args, named_goal, opened_row, opened_rows, opened_steps, opened_terms, rows_opened, step_variables, steps_opened}
use Rattle.px_general.specs.Replayed.{IsReplayed}
use Rattle.px_replay.specs.Replay.{opened, all_opened}
use Rattle.px_replay.proofs.GoalSteps.{read-variable}
use Rattle.px_general.proofs.InstanceSupports.{object-there, instance_supports}
use Rattle.px_general.proofs.Solving.{atom_without, count-object, count-variable, op_of}
use Rattle.px_general.proofs.SupportInstances.{name-read}
use Rattle.px_general.proofs.Reading.{read-right, variables-have}

-- ---- steps

pub ops-under : (terms : List Term) (steps : List OpInst) → map op_of (map (substitute_instance terms) steps) ≡ map op_of steps
ops-under terms [] = refl
ops-under terms (s ∷ steps) = ap (λ l. s.op ∷ l) (ops-under terms steps)

pub ops-opened : (first : ℕ) (steps : List OpInst) → map op_of (opened_steps first steps) ≡ map op_of steps
ops-opened first [] = refl
ops-opened first (s ∷ steps) = ap (λ l. s.op ∷ l) (ops-opened (first + length s.args) steps)

-- ---- proofs

row_skeletons-under : (terms : List Term) (row : List Derivation) → map skeleton (map (derivation_under terms) row) ≡ map skeleton row
row_skeletons-under terms [] = refl
row_skeletons-under terms (d ∷ row) = let one = skeleton-under terms d in let rest = row_skeletons-under terms row in λ i. one i ∷ rest i

pub rows_skeletons-under : (terms : List Term) (rows : List (List Derivation))
    → map (map skeleton) (map (map (derivation_under terms)) rows) ≡ map (map skeleton) rows
rows_skeletons-under terms [] = refl
rows_skeletons-under terms (row ∷ rows) =
    let one = row_skeletons-under terms row in let rest = rows_skeletons-under terms rows in λ i. one i ∷ rest i

module _ (named : ℕ → ℕ → Atom) where
  mutual
    skeleton-opened : (first : ℕ) (d : Derivation) → skeleton (opened named first d) ≡ skeleton d
    skeleton-opened first (fact leaf) = refl
    skeleton-opened first (ancestor i) = refl
    skeleton-opened first (step number theta place parts) = ap (step number [] place) (skeletons-opened (first + length theta) parts)
    skeleton-opened first (gap atom) = refl
    skeleton-opened first open_place = refl

    skeletons-opened : (first : ℕ) (ds : Derivations) → skeletons (all_opened named first ds) ≡ skeletons ds
    skeletons-opened first none = refl
    skeletons-opened first (also d ds) =
        let one = skeleton-opened first d in let rest = skeletons-opened (first + fresh_in d) ds in λ i. also (one i) (rest i)

  row_skeletons-opened : (first : ℕ) (row : List Derivation) → map skeleton (opened_row named first row) ≡ map skeleton row
  row_skeletons-opened first [] = refl
  row_skeletons-opened first (d ∷ row) =
      let one = skeleton-opened first d in let rest = row_skeletons-opened (first + fresh_in d) row in λ i. one i ∷ rest i

  pub rows_skeletons-opened : (first : ℕ) (rows : List (List Derivation))
      → map (map skeleton) (opened_rows named first rows) ≡ map (map skeleton) rows
  rows_skeletons-opened first [] = refl
  rows_skeletons-opened first (row ∷ rows) =
      let one = row_skeletons-opened first row in let rest = rows_skeletons-opened (first + _) rows in λ i. one i ∷ rest i

-- ---- the goal

without-object : (t : Term) → IsObject t → without_object t ≡ Obj 0
without-object (Obj n) is = refl
without-object (Var v) is = absurd is
without-object WildCard is = absurd is

module _ (problem : Problem) (variable_count params : ℕ) (names : List Term) (sigma : List ℕ) (count : length sigma ≡ params) where
  named_args-shape : (first : ℕ) (ts : List Term) → All (IsTermOf problem variable_count) ts
      → ((v : ℕ) → first ≤ v → v < first + count_by is_object ts → IsObjectOrParameter problem.objects params (substitute names (Var v)))
      → map without_object (map (substitute (map Obj sigma ++ variables variable_count)) (named_args names params first ts)) ≡ map without_object ts
  named_args-shape first [] are at = refl
  named_args-shape first (Obj n ∷ ts) are at =
      let counted = count-object n ts in
      let here = at first (omega arith) (omega (arith, counted)) in
      let name =
      name-read problem.objects params (map Obj sigma) (variables variable_count) (substitute names (Var first))
      (omega (arith, count, length-map sigma Obj)) here in
      let head : without_object (substitute (map Obj sigma ++ variables variable_count) (substitute names (Var first))) ≡ Obj 0 =
      ap without_object name ∙ without-object (substitute (map Obj sigma) (substitute names (Var first)))
      (object-there problem sigma params count (substitute names (Var first)) here) in
      let rest =
      named_args-shape (first + 1) ts (All-tail (IsTermOf problem variable_count) (Obj n) ts are)
      (λ v low high. at v (omega (arith, low)) (omega (arith, high, counted))) in
      λ i. head i ∷ rest i
  named_args-shape first (Var v ∷ ts) are at =
      let below : v < variable_count = All-head (IsTermOf problem variable_count) (Var v) ts are in
      let counted = count-variable v ts in
      let head : without_object (substitute (map Obj sigma ++ variables variable_count) (Var (params + v))) ≡ Var v =
      ap without_object (read-right (map Obj sigma) (variables variable_count) params v (omega (arith, count, length-map sigma Obj))
      ∙ read-variable 0 variable_count v below ∙ ap Var (omega arith)) in
      let rest =
      named_args-shape first ts (All-tail (IsTermOf problem variable_count) (Var v) ts are)
      (λ x low high. at x low (omega (arith, high, counted))) in
      λ i. head i ∷ rest i
  named_args-shape first (WildCard ∷ ts) are at = absurd (All-head (IsTermOf problem variable_count) WildCard ts are)

  named_goal-shape : (first : ℕ) (goal : List Atom) → All (IsAtomOf problem variable_count) goal
      → ((v : ℕ) → first ≤ v → v < first + goal_objects goal → IsObjectOrParameter problem.objects params (substitute names (Var v)))
      → map atom_without (map (substitute_atom (map Obj sigma ++ variables variable_count)) (named_goal names params first goal))
      ≡ map atom_without goal
  named_goal-shape first [] are at = refl
  named_goal-shape first (a ∷ goal) are at =
      let counted = sum_by-cons (λ (atom : Atom). count_by is_object atom.args) a goal in
      let args =
      named_args-shape first a.args (All-head (IsAtomOf problem variable_count) a goal are).1
      (λ v low high. at v low (omega (arith, high, counted))) in
      let rest =
      named_goal-shape (first + count_by is_object a.args) goal (All-tail (IsAtomOf problem variable_count) a goal are)
      (λ v low high. at v (omega (arith, low)) (omega (arith, high, counted))) in
      λ i. record { pred = a.pred; args = args i } ∷ rest i

-- ---- all of it

-- the names of the goal's slots are names
pub slot-name : (problem : Problem) (plan general : Table) (names roots : List Term) → IsReplayed problem plan general names roots
    → (v : ℕ) → step_variables plan.steps ≤ v → v < step_variables plan.steps + goal_objects plan.goal
    → IsObjectOrParameter problem.objects general.params (substitute names (Var v))
slot-name problem plan general names roots replayed v low high =
    All-at (λ t. IsObjectOrParameter problem.objects general.params (substitute names t)) (opened_terms problem plan)
    (Var v) replayed.are_names
    (Contains-append_right _ _ (Var v) (Contains-append_left (variables_from (step_variables plan.steps) (goal_objects plan.goal)) _ (Var v)
    (variables-have (step_variables plan.steps) (goal_objects plan.goal) v low high)))

pub instance-shaped : (problem : Problem) (plan general : Table) (names roots : List Term) → IsTable problem plan → plan.params ≡ 0
    → IsReplayed problem plan general names roots
    → (objects : List ℕ) → length objects ≡ general.params
    → shape_of_support (steps_under general objects) (goal_under general objects) (rows_under general objects) ≡ shape_of_table plan
instance-shaped problem plan general names roots is_table no_params replayed objects count =
    let terms : List Term = map Obj objects in
    let ops : map op_of (steps_under general objects) ≡ map op_of plan.steps =
    ops-under terms general.steps ∙ ap (map op_of) replayed.steps ∙ ops-under names (steps_opened plan) ∙ ops-opened 0 plan.steps in
    let goal_are : All (IsAtomOf problem plan.goal_variable_count) plan.goal =
    subst (λ (n : ℕ). All (IsAtomOf problem n) plan.goal) (omega (arith, no_params)) is_table.in_range.goal in
    let goals : map atom_without (goal_under general objects) ≡ map atom_without plan.goal =
    ap (λ l. map atom_without (map (substitute_atom (terms ++ variables general.goal_variable_count)) l)) replayed.goal
    ∙ ap (λ n. map atom_without (map (substitute_atom (terms ++ variables n))
    (named_goal names general.params (step_variables plan.steps) plan.goal))) replayed.goal_variable_count
    ∙ named_goal-shape problem plan.goal_variable_count general.params names objects count (step_variables plan.steps) plan.goal goal_are
    (slot-name problem plan general names roots replayed) in
    let rows : map (map skeleton) (rows_under general objects) ≡ map (map skeleton) (rows_of plan.proofs) =
    rows_skeletons-under terms (rows_of general.proofs) ∙ ap (map (map skeleton)) replayed.rows
    ∙ rows_skeletons-under names (rows_opened problem plan) ∙ rows_skeletons-opened _ _ (rows_of plan.proofs) in
    λ i. record { operators = ops i; goal = goals i; rows = rows i }

pub sound_for : (problem : Problem) → IsValid problem → (plan general : Table) (names roots : List Term) → IsTable problem plan
    → plan.params ≡ 0 → IsReplayed problem plan general names roots → IsTable problem general → IsSoundFor problem plan general
sound_for problem valid plan general names roots is_table no_params replayed is_general more objects atoms steps goal rows is =
    let sorts : List ℕ = problem.object_sorts ++ more in
    let supports : Supports problem atoms (steps_under general objects) (goal_under general objects) plan.goal_variable_count
    (rows_under general objects) =
    subst (λ (n : ℕ). Supports problem atoms (steps_under general objects) (goal_under general objects) n (rows_under general objects))
    replayed.goal_variable_count
    (instance_supports problem general is_general objects is.count is.proper atoms is.kernel) in
    let fit = steps-fit problem general more objects valid is_general is.count is.fitting in
    let shaped = instance-shaped problem plan general names roots is_table no_params replayed objects is.count in
    subst (λ (s : List OpInst). Supports problem atoms s goal plan.goal_variable_count rows × All (IsWellSortedBy sorts problem) s
    × (shape_of_support s goal rows ≡ shape_of_table plan))
    (sym is.steps_are)
    (subst (λ (g : List Atom). Supports problem atoms (steps_under general objects) g plan.goal_variable_count rows
    × All (IsWellSortedBy sorts problem) (steps_under general objects)
    × (shape_of_support (steps_under general objects) g rows ≡ shape_of_table plan)) (sym is.goal_is)
    (subst (λ (r : List (List Derivation)). Supports problem atoms (steps_under general objects)
    (goal_under general objects) plan.goal_variable_count r
    × All (IsWellSortedBy sorts problem) (steps_under general objects)
    × (shape_of_support (steps_under general objects) (goal_under general objects) r ≡ shape_of_table plan)) (sym is.rows_are)
    (supports, fit, shaped)))
