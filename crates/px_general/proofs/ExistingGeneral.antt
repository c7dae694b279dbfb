-- Each plan has a general table: that of a most general solution of its replay.
use Rattle.std.specs.Prelude.{◌≡◌, ℕ, List, map, replicate, All}
use Rattle.std.proofs.Common.{refl, subst}
use Rattle.px_terms.specs.declared.instance.OpInst.{OpInst}
use Rattle.px_terms.specs.declared.problem.Problem.{Problem}
use Rattle.px_terms.specs.declared.term.Term.{Term}
use Rattle.px_terms.specs.Language.{substitute}
use Rattle.px_terms.specs.Substitution.{substitute_instance}
use Rattle.px_terms.specs.Validity.{IsValid}
use Rattle.px_unify.specs.declared.change.Change.TheVariants.{Fresh}
use Rattle.px_proof.specs.Derivation.{Derivation}
use Rattle.px_proof.specs.LayerLaws.{proof_of}
use Rattle.px_proof.specs.Substitution.{derivation_under}
use Rattle.px_table.specs.declared.table.Table.{Table}
use Rattle.px_table.specs.Tables.{IsTable, table_of_rows}
use Rattle.px_table.specs.WellSorted.{sorts_by_places}
use Rattle.px_replay.specs.FreshVariables.{fresh_variables}
use Rattle.px_replay.specs.Opened.{goal_opened, named_goal, replay_pairs, rows_opened, step_variables, steps_opened}
use Rattle.px_replay.specs.Replaying.{CanReplayRows}
use Rattle.px_general.specs.General.{Generalises, GeneralsExist, KeepsPlan}
use Rattle.px_general.specs.Naming.{IsBuilt, IsSolutionOf, walked_terms}
use Rattle.px_general.proofs.GeneralSteps.{fresh-variables, made_general, plan_can, solution_roots}
use Rattle.px_general.proofs.LabelledWalks.{WalkLabels, labels-there}
use Rattle.px_general.proofs.Merging.{solution-there}
use Rattle.px_general.proofs.PlainPairs.{IsPlainPair, rows-plain}
use Rattle.px_general.proofs.ProofTerms.{rows-back}

module _ (problem : Problem) (plan : Table) (valid : IsValid problem) (is_table : IsTable problem plan) (no_params : plan.params ≡ 0) where
  abbrev count : ℕ
  count = fresh_variables plan

  can : CanReplayRows problem (steps_opened plan) (goal_opened plan) (rows_opened problem plan) (replicate count Fresh)
  can = plan_can problem plan valid is_table no_params count refl

  pairs_plain : All (IsPlainPair count) (replay_pairs problem plan)
  pairs_plain =
      subst (λ (n : ℕ). All (IsPlainPair n) (replay_pairs problem plan)) (fresh-variables count)
      (rows-plain _ problem valid.arena (steps_opened plan) (goal_opened plan) (rows_opened problem plan) can.forms can.needs_below
      can.goal_below can.terms_below)

  solution : (resolved : List Term) × IsSolutionOf (replay_pairs problem plan) count resolved
  solution = solution-there count (replay_pairs problem plan) pairs_plain (can.solved.0, can.solved.2)

  labels : WalkLabels solution.0 (walked_terms problem plan)
  labels =
      labels-there solution.0 (solution_roots (replay_pairs problem plan) count solution.0 solution.1) (walked_terms problem plan)

  abbrev names : List Term
  names = map (substitute labels.labels) solution.0

  abbrev steps : List OpInst
  steps = map (substitute_instance names) (steps_opened plan)

  abbrev rows : List (List Derivation)
  rows = map (map (derivation_under names)) (rows_opened problem plan)

  abbrev general : Table
  general =
      table_of_rows labels.next (sorts_by_places problem steps labels.next) steps
      (named_goal names labels.next (step_variables plan.steps) plan.goal) plan.goal_variable_count (map (map proof_of) rows)

  built : IsBuilt problem plan general names
  built = record {
    steps_are = refl;
    goal_is = refl;
    goal_variable_count = refl;
    rows_are = rows-back names problem (steps_opened plan) (goal_opened plan) (rows_opened problem plan) can.forms;
    marks_are = refl;
    sorts_are = refl;
  }

  made : Generalises problem plan general × KeepsPlan problem plan general
  made =
      made_general problem plan valid is_table no_params count refl general solution.0 labels.labels solution.1 labels.long labels.are built

  pub general-there : (table : Table) × Generalises problem plan table × KeepsPlan problem plan table
  general-there = (general, made.0, made.1)

pub generals_exist : GeneralsExist
generals_exist problem plan valid is_table no_params = general-there problem plan valid is_table no_params
