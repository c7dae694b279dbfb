-- A proper plan is an instance of itself, so what generalises it has a proper instance.
use Rattle.std.specs.Prelude.{◌≡◌, ℕ, List, [], ◌∷◌, ◌++◌, map, All}
use Rattle.std.proofs.Common.{refl, sym, ap, ◌∙◌, subst, arith}
use Rattle.std.proofs.lemmas.List.Elements.{All-head, All-tail, All-contains_itself}
use Rattle.px_terms.specs.declared.atom.Atom.{Atom}
use Rattle.px_terms.specs.declared.problem.Problem.{Problem}
use Rattle.px_terms.specs.declared.term.Term.{Term}
use Rattle.px_terms.specs.declared.term.Term.TheVariants.{Obj, Var, Any as WildCard}
use Rattle.px_terms.specs.Language.{substitute}
use Rattle.px_terms.specs.Substitution.{substitute_atom}
use Rattle.px_terms.specs.Validity.{IsAtomOf, IsTermOf}
use Rattle.px_table.specs.declared.table.Table.{Table}
use Rattle.px_table.specs.Kernels.{IsProper, goal_under, kernel_under, rows_under, steps_under}
use Rattle.px_table.specs.Supports.{variables}
use Rattle.px_table.specs.SupportShapes.{shape_of_support, without_object}
use Rattle.px_table.specs.Tables.{IsTable, rows_of}
use Rattle.px_replay.proofs.GoalSteps.{read-variable}
use Rattle.px_general.specs.General.{Generalises, IsTableInstance, shape_of_table}
use Rattle.px_general.proofs.Solving.{atom_without}
use Rattle.px_general.proofs.Shaped.{ops-under, rows_skeletons-under}
use Rattle.px_general.proofs.InstanceSupports.{instance_supports}
use Rattle.px_general.proofs.WellSortedGeneral.{own_steps-fit}

module _ (problem : Problem) (plan : Table) (is_table : IsTable problem plan) (no_params : plan.params ≡ 0) where
  term-same : (t : Term) → IsTermOf problem plan.goal_variable_count t → without_object (substitute (variables plan.goal_variable_count) t) ≡ without_object t
  term-same (Obj n) is = refl
  term-same (Var v) is = ap without_object (read-variable 0 plan.goal_variable_count v is ∙ ap Var (omega arith))
  term-same WildCard is = refl

  args-same : (ts : List Term) → All (IsTermOf problem plan.goal_variable_count) ts
      → map without_object (map (substitute (variables plan.goal_variable_count)) ts) ≡ map without_object ts
  args-same [] all = refl
  args-same (t ∷ ts) all =
      let head = term-same t (All-head (IsTermOf problem plan.goal_variable_count) t ts all) in
      let rest = args-same ts (All-tail (IsTermOf problem plan.goal_variable_count) t ts all) in
      λ i. head i ∷ rest i

  goal-same : (goal : List Atom) → All (IsAtomOf problem plan.goal_variable_count) goal
      → map atom_without (map (substitute_atom (variables plan.goal_variable_count)) goal) ≡ map atom_without goal
  goal-same [] all = refl
  goal-same (a ∷ goal) all =
      let args = args-same a.args (All-head (IsAtomOf problem plan.goal_variable_count) a goal all).1 in
      let rest = goal-same goal (All-tail (IsAtomOf problem plan.goal_variable_count) a goal all) in
      λ i. record { pred = a.pred; args = args i } ∷ rest i

  own-shape : shape_of_support (steps_under plan []) (goal_under plan []) (rows_under plan []) ≡ shape_of_table plan
  own-shape =
      let ops = ops-under [] plan.steps in
      let goal =
      goal-same plan.goal (subst (λ (n : ℕ). All (IsAtomOf problem n) plan.goal) (omega (arith, no_params)) is_table.in_range.goal) in
      let rows = rows_skeletons-under [] (rows_of plan.proofs) in
      λ i. record { operators = ops i; goal = goal i; rows = rows i }

  -- so what generalises it has a proper instance, by objects that fit
  pub has_instance : IsProper problem plan [] 1 → (general : Table) → Generalises problem plan general
      → (objects : List ℕ)
      × IsTableInstance problem (problem.object_sorts ++ []) general objects (kernel_under plan [] 1) (steps_under plan [])
      (goal_under plan []) (rows_under plan [])
  has_instance proper general is =
      let supports =
      instance_supports problem plan is_table [] (sym no_params) proper (kernel_under plan [] 1)
      (All-contains_itself (kernel_under plan [] 1)) in
      is.all [] (kernel_under plan [] 1) (steps_under plan []) (goal_under plan []) (rows_under plan []) supports
      (own_steps-fit problem plan is_table no_params []) own-shape
