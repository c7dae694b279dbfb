-- The plan's own steps fit, and so the general table, of which the plan is an instance, is well-sorted.
use Rattle.std.specs.Prelude.{◌≡◌, ℕ, List, [], ◌∷◌, ◌++◌, map, All, slice_index_or}
use Rattle.std.proofs.Common.{zero, suc, refl, sym, ap, ◌∙◌, subst, arith}
use Rattle.px_base.specs.ListLaws.{All-at, All-each}
use Rattle.px_terms.specs.declared.problem.Problem.{Problem}
use Rattle.px_terms.specs.declared.term.Term.{Term}
use Rattle.px_terms.specs.declared.term.Term.TheVariants.{Obj, Var, Any as WildCard}
use Rattle.px_terms.specs.Language.{object_of, substitute}
use Rattle.px_terms.specs.Sorts.{FitsSort, IsOfSort, IsWellSorted, IsWellSortedBy}
use Rattle.px_terms.specs.Validity.{IsTermOf, IsValid}
use Rattle.px_table.specs.declared.table.Table.{Table}
use Rattle.px_table.specs.Kernels.{instance_under, steps_under}
use Rattle.px_table.specs.Tables.{IsStepOf, IsTable}
use Rattle.px_table.specs.WellSorted.{IsWellSortedStep, IsWellSortedTable, sorts_by_places}
use Rattle.px_table.specs.WellSortedLaws.{places-are_well_sorted}
use Rattle.px_general.specs.General.{KeepsPlan}
use Rattle.px_general.proofs.Mapped.{steps-by, steps-same}
use Rattle.px_general.proofs.Renaming.{of-steps}

-- ---- the plan's own steps fit

-- an object that fits under a list of sorts fits under each longer one
fits-more : (sorts more : List ℕ) (wanted object : ℕ) → FitsSort sorts wanted object → FitsSort (sorts ++ more) wanted object
fits-more [] more wanted object fits other = absurd (other (sym (fits other)))
fits-more (s ∷ sorts) more wanted zero fits other = fits other
fits-more (s ∷ sorts) more wanted (suc object) fits other = fits-more sorts more wanted object fits other

module _ (problem : Problem) (plan : Table) (is_table : IsTable problem plan) (no_params : plan.params ≡ 0) where
  object-fits : (wanted : ℕ) (t : Term) → IsTermOf problem plan.params t → IsOfSort problem.object_sorts plan.param_sorts wanted t
      → FitsSort problem.object_sorts wanted (object_of t)
  object-fits wanted (Obj n) is stands = stands
  object-fits wanted (Var v) is stands = absurd (omega (arith, is, no_params))
  object-fits wanted WildCard is stands = absurd is

  plan_steps-fit : All (IsWellSorted problem) plan.steps
  plan_steps-fit = All-each (IsWellSorted problem) plan.steps (λ s has k below. object-fits _ (slice_index_or s.args k WildCard)
      ((All-at (IsStepOf problem plan.params) plan.steps s is_table.in_range.steps has).terms k WildCard below)
      (All-at (IsWellSortedStep problem plan.param_sorts) plan.steps s is_table.sorted.steps has k below))

  stays : (t : Term) → IsTermOf problem plan.params t → substitute [] t ≡ t
  stays (Obj n) is = refl
  stays (Var v) is = absurd (omega (arith, is, no_params))
  stays WildCard is = absurd is

  own_steps : steps_under plan [] ≡ plan.steps
  own_steps =
      ap (map (instance_under [])) (sym (steps-same plan.steps))
      ∙ steps-by (substitute []) (λ t. t) (λ t. t) plan.steps (λ t has. stays t (of-steps problem plan is_table t has))
      ∙ steps-same plan.steps

  -- also where numbers past the problem's objects have sorts
  pub own_steps-fit : (more : List ℕ) → All (IsWellSortedBy (problem.object_sorts ++ more) problem) (steps_under plan [])
  own_steps-fit more = subst (All (IsWellSortedBy (problem.object_sorts ++ more) problem)) (sym own_steps)
      (All-each (IsWellSortedBy (problem.object_sorts ++ more) problem) plan.steps (λ s has k below.
      fits-more problem.object_sorts more _ _ (All-at (IsWellSorted problem) plan.steps s plan_steps-fit has k below)))

-- ---- the general table

pub well_sorted-general : (problem : Problem) → IsValid problem → (plan general : Table) → IsTable problem plan → plan.params ≡ 0
    → KeepsPlan problem plan general → All (IsStepOf problem general.params) general.steps
    → general.param_sorts ≡ sorts_by_places problem general.steps general.params → IsWellSortedTable problem general
well_sorted-general problem valid plan general is_table no_params keeps are by_places =
    places-are_well_sorted problem general keeps.objects valid are keeps.instantiation.count by_places
    (subst (All (IsWellSorted problem)) (sym keeps.steps) (plan_steps-fit problem plan is_table no_params))
