-- The table that a most general solution of a plan's replay makes of the opened plan.
use Rattle.std.specs.Prelude.{◌≡◌, ◌<◌, ℕ, List, length, map, All, Contains}
use Rattle.px_terms.specs.declared.atom.Atom.{Atom}
use Rattle.px_terms.specs.declared.problem.Problem.{Problem}
use Rattle.px_terms.specs.declared.term.Term.{Term}
use Rattle.px_terms.specs.declared.term.Term.TheVariants.{Var}
use Rattle.px_terms.specs.Language.{substitute}
use Rattle.px_terms.specs.Substitution.{substitute_instance}
use Rattle.px_unify.specs.Changes.{MakesEachEqual}
use Rattle.px_proof.specs.Proves.{IsObjectOrParameter}
use Rattle.px_proof.specs.Substitution.{derivation_under}
use Rattle.px_table.specs.declared.table.Table.{Table}
use Rattle.px_table.specs.Marks.{marks_from}
use Rattle.px_table.specs.Tables.{rows_of}
use Rattle.px_table.specs.WellSorted.{sorts_by_places}
use Rattle.px_replay.specs.Opened.{named_goal, opened_terms, replay_pairs, rows_opened, step_variables, steps_opened}

-- ---- its most general solution

-- The names make the atoms of each pair equal, and whatever terms do so are, at the terms of the list, the names with the
-- values that these terms give the roots.
pub record IsMostGeneral (pairs : List (Atom × Atom)) (at : List Term) (names roots : List Term) : Type 0 where
  pub unifies : MakesEachEqual pairs names
  pub factors : (terms : List Term) → MakesEachEqual pairs terms → (t : Term) → Contains at t
      → substitute terms t ≡ substitute (map (substitute terms) roots) (substitute names t)

-- The table is the opened plan under a most general solution of the replay, in whose terms each parameter occurs.
pub record IsReplayed (problem : Problem) (plan general : Table) (names roots : List Term) : Type 0 where
  pub most_general : IsMostGeneral (replay_pairs problem plan) (opened_terms problem plan) names roots
  pub are_names : All (λ t. IsObjectOrParameter problem.objects general.params (substitute names t)) (opened_terms problem plan)
  pub used : (v : ℕ) → v < general.params → (t : Term) × Contains (opened_terms problem plan) t × (substitute names t ≡ Var v)
  pub count : length roots ≡ general.params
  pub steps : general.steps ≡ map (substitute_instance names) (steps_opened plan)
  pub goal : general.goal ≡ named_goal names general.params (step_variables plan.steps) plan.goal
  pub goal_variable_count : general.goal_variable_count ≡ plan.goal_variable_count
  pub rows : rows_of general.proofs ≡ map (map (derivation_under names)) (rows_opened problem plan)
  pub marks : general.marks ≡ marks_from 1 (rows_of general.proofs)
  pub sorts : general.param_sorts ≡ sorts_by_places problem general.steps general.params
