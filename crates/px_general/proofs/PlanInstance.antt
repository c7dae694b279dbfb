-- The plan is its general table with some of the problem's objects for the parameters, whether or not any instance is proper.
use Rattle.std.specs.Prelude.{◌≡◌, ◌+◌, ◌<◌, ℕ, List, map, flat_map, slice_index_or, All, Contains}
use Rattle.std.proofs.Common.{refl, sym, ap, ◌∙◌, subst, arith}
use Rattle.std.proofs.lemmas.List.Elements.{All-map}
use Rattle.px_base.specs.ListLaws.{All-at, All-each}
use Rattle.px_terms.specs.declared.atom.Atom.{Atom}
use Rattle.px_terms.specs.declared.instance.OpInst.{OpInst}
use Rattle.px_terms.specs.declared.problem.Problem.{Problem}
use Rattle.px_terms.specs.declared.term.Term.{Term}
use Rattle.px_terms.specs.declared.term.Term.TheVariants.{Obj, Var, Any as WildCard}
use Rattle.px_terms.specs.Language.{substitute, IsObject}
use Rattle.px_terms.specs.Validity.{IsAtomOf, IsTermOf}
use Rattle.px_unify.specs.Changes.{MakesEachEqual}
use Rattle.px_proof.specs.Derivation.{skeleton}
use Rattle.px_proof.specs.Proves.{IsObjectOrParameter}
use Rattle.px_proof.specs.ProvesLaws.{name_of_term}
use Rattle.px_table.specs.declared.table.Table.{Table}
use Rattle.px_table.specs.Marks.{IsNamed}
use Rattle.px_table.specs.Supports.{RowsProve}
use Rattle.px_table.specs.Tables.{IsTable, rows_of}
use Rattle.px_general.specs.General.{KeepsPlan}
use Rattle.px_general.specs.Replayed.{IsReplayed}
use Rattle.px_replay.specs.Opened.{opened_terms, replay_pairs, rows_opened, steps_opened}
use Rattle.px_general.proofs.Assembling.{IsSolution, own_terms-solve}
use Rattle.px_general.proofs.Reading.{All-flat_map}
use Rattle.px_general.proofs.Shaped.{ops-opened, ops-under, rows_skeletons-opened, rows_skeletons-under}
use Rattle.px_general.proofs.Solving.{objects_among, objects_among-all, op_of, own_of_goal}
use Rattle.px_general.proofs.SupportInstances.{AreUnder, are-under, number_of, objects, own-all, values-all}
use Rattle.px_general.proofs.Under.{rows_terms-allowed}

-- ---- the plan's own terms are objects of the problem

steps_terms-names : (problem : Problem) (steps : List OpInst) → All (λ (inst : OpInst). All (IsTermOf problem 0) inst.args) steps
    → All (IsObjectOrParameter problem.objects 0) (flat_map (λ (inst : OpInst). inst.args) steps)
steps_terms-names problem steps all = All-flat_map (IsObjectOrParameter problem.objects 0) (λ (inst : OpInst). inst.args) steps (λ s has.
    All-each (IsObjectOrParameter problem.objects 0) s.args (λ t there. name_of_term problem 0 t
    (All-at (IsTermOf problem 0) s.args t (All-at (λ (inst : OpInst). All (IsTermOf problem 0) inst.args) steps s all has) there)))

own_of_goal-names : (problem : Problem) (variable_count : ℕ) (goal : List Atom) → All (IsAtomOf problem variable_count) goal
    → All (IsObjectOrParameter problem.objects 0) (own_of_goal goal)
own_of_goal-names problem variable_count goal all =
    All-flat_map (IsObjectOrParameter problem.objects 0) (λ (atom : Atom). objects_among atom.args) goal (λ a has.
    objects_among-all (IsObjectOrParameter problem.objects 0) a.args
    (λ n there. All-at (IsTermOf problem variable_count) a.args (Obj n) (All-at (IsAtomOf problem variable_count) goal a all has).1 there))

module _ (problem : Problem) (plan : Table) (is_table : IsTable problem plan) (no_params : plan.params ≡ 0) where
  plan_prove : RowsProve (IsObjectOrParameter problem.objects 0) problem 0 plan.steps plan.goal plan.goal_variable_count (rows_of plan.proofs)
  plan_prove =
      subst (λ (n : ℕ). RowsProve (IsObjectOrParameter problem.objects n) problem n plan.steps plan.goal plan.goal_variable_count
      (rows_of plan.proofs)) no_params
      is_table.prove

  plan_solution : (terms : List Term) × IsSolution problem plan plan.steps plan.goal (rows_of plan.proofs) terms
  plan_solution = (
    _,
    own_terms-solve problem plan is_table no_params (IsObjectOrParameter problem.objects 0) plan.steps plan.goal
        (rows_of plan.proofs) plan_prove
        (λ k d below. (is_table.in_range.steps k d below).count)
        (subst (All (IsNamed problem plan.steps)) is_table.marks is_table.named) refl,
  )

  own-names : (t : Term) → Contains (opened_terms problem plan) t
      → IsObjectOrParameter problem.objects 0 (substitute plan_solution.0 t)
  own-names =
      own-all (IsObjectOrParameter problem.objects 0) problem plan plan.steps plan.goal (rows_of plan.proofs) plan_solution.0
      plan_solution.1
      (steps_terms-names problem plan.steps (λ k d below. subst
      (λ (n : ℕ). All (IsTermOf problem n) ((slice_index_or plan.steps k d).args)) no_params
      (is_table.in_range.steps k d below).terms))
      (own_of_goal-names problem (plan.params + plan.goal_variable_count) plan.goal is_table.in_range.goal)
      (rows_terms-allowed (IsObjectOrParameter problem.objects 0) problem 0 plan.goal plan.goal_variable_count plan.steps
      (rows_of plan.proofs) plan_prove)

  pub plan-own : (terms : List Term) × MakesEachEqual (replay_pairs problem plan) terms
      × ((t : Term) → Contains (opened_terms problem plan) t → IsObjectOrParameter problem.objects 0 (substitute terms t))
  plan-own = (plan_solution.0, plan_solution.1.equal, own-names)

  -- ---- the plan as an instance

  module _ (general : Table) (names roots : List Term) (replayed : IsReplayed problem plan general names roots) where
    is_object : (t : Term) → IsObjectOrParameter problem.objects 0 t → IsObject t
    is_object (Obj n) is = tt
    is_object (Var v) is = absurd (omega (arith, is))
    is_object WildCard is = absurd is

    own-objects : (t : Term) → Contains (opened_terms problem plan) t → IsObject (substitute plan_solution.0 t)
    own-objects t has = is_object (substitute plan_solution.0 t) (own-names t has)

    below : (t : Term) → IsObjectOrParameter problem.objects 0 t → number_of t < problem.objects
    below (Obj n) is = is
    below (Var v) is = absurd (omega (arith, is))
    below WildCard is = absurd is

    abbrev its_objects : List ℕ
    its_objects =
        objects problem plan general names roots is_table no_params replayed plan.steps plan.goal (rows_of plan.proofs) plan_solution.0
        plan_solution.1 refl own-objects

    its : AreUnder general its_objects plan.steps plan.goal (rows_of plan.proofs)
    its =
        are-under problem plan general names roots is_table no_params replayed plan.steps plan.goal (rows_of plan.proofs) plan_solution.0
        plan_solution.1 refl own-objects

    are_below : All (λ n. n < problem.objects) its_objects
    are_below = All-map (λ n. n < problem.objects) number_of _ (λ k d inside. below _
        (values-all problem plan general names roots is_table no_params replayed plan.steps plan.goal (rows_of plan.proofs)
        plan_solution.0 plan_solution.1 refl own-objects (IsObjectOrParameter problem.objects 0) own-names k d inside))

    pub keeps-plan : KeepsPlan problem plan general
    keeps-plan = record {
      operators = ap (map op_of) replayed.steps ∙ ops-under names (steps_opened plan) ∙ ops-opened 0 plan.steps;
      skeletons =
          ap (map (map skeleton)) replayed.rows ∙ rows_skeletons-under names (rows_opened problem plan)
          ∙ rows_skeletons-opened _ _ (rows_of plan.proofs);
      objects = its_objects;
      instantiation = record { count = its.count; objects = are_below };
      steps = sym its.steps_are;
      goal = sym its.goal_is;
      rows = sym its.rows_are;
    }
