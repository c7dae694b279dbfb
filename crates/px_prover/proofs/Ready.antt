-- What a sound state says of its first open goal.
use Rattle.std.proofs.Common.{◌≡◌, ℕ, suc, ◌+◌, ◌-◌, ◌≤◌, Bool, Some, List, ◌∷◌, length, get_or, slice_get, ap, ◌∙◌, arith}
use Rattle.std.specs.Prelude.{All}
use Rattle.std.specs.List.{AllByRecursion}
use Rattle.px_base.specs.Bounds.{u32_max}
use Rattle.px_terms.specs.Limits.{most_formula_variables}
use Rattle.px_prover.specs.Tries.{IsReadyToTry}
use Rattle.px_prover.proofs.Scopes.{open-in, open-near, goals-near, lit-plain, lits-plain, IsNear}
use Rattle.px_proof.specs.PlaceLaws.{All-got, slice_get-read}
use Rattle.px_proof.specs.declared.shape.Tick.{Tick}
use Rattle.px_question.specs.Settings.{Setting}
use Rattle.px_proof_state.specs.Arena.{goals_at, path_at}
use Rattle.px_proof_state.specs.Axioms.{IsFit}
use Rattle.px_proof_state.specs.Parts.{IsLitBelow}
use Rattle.px_proof_state.specs.States.{ProofStateValue}
use Rattle.px_proof_state.specs.declared.open.OpenGoal.{OpenGoal}
use Rattle.px_proof_state.proofs.Hanging.{goals_at-index, path_at-index}
use Rattle.px_terms.specs.declared.atom.Atom.{Atom}
use Rattle.px_terms.specs.declared.clause.Clause.{Clause}
use Rattle.px_unify.specs.Changes.{variables_of}
use Rattle.px_proof_walk.specs.Pending.{Goal, goals_of}
use Rattle.px_proof_walk.specs.Scope.{IsGoalIn}
use Rattle.px_proof_walk.proofs.Objects.{goals-in}

-- the goal with what hangs above it
abbrev pub goal_in : ProofStateValue → OpenGoal → Goal
goal_in old g = record { lit = g.lit; path = path_at old.goals g.above; budget = g.budget }

module _ (loose : Bool) (s : Setting) (formula : List Atom) (variable_count : ℕ) (ticks : List Tick) (old : ProofStateValue) (goal : OpenGoal)
    (ready : IsReadyToTry loose s formula variable_count ticks old goal) where
  older : (goal.above ≤ old.first - 1) × (goal.next ≤ old.first - 1)
  older = ready.sound.arena (old.first - 1) goal ready.at

  place : old.first ≡ suc (old.first - 1)
  place = omega (arith, ready.some)

  pub ready-above : goal.above ≤ length old.goals
  ready-above = omega (arith, older.0, ready.sound.within)

  pub ready-next : goal.next ≤ length old.goals
  ready-next = omega (arith, older.1, ready.sound.within)

  -- it is open first, then the goals at the place that it names
  pub ready-open : goals_at old.goals old.first ≡ goal_in old goal ∷ goals_at old.goals goal.next
  ready-open = ap (goals_at old.goals) place ∙ goals_at-index old.goals (old.first - 1) goal ready.at older.1 older.0

  pub ready-path : path_at old.goals old.first ≡ goal.lit ∷ path_at old.goals goal.above
  ready-path = ap (path_at old.goals) place ∙ path_at-index old.goals (old.first - 1) goal ready.at older.0

  all_in : AllByRecursion (IsGoalIn s.objects (variables_of old.changes)) (goals_at old.goals old.first)
  all_in =
      open-in loose s ready.asked.setting ticks variable_count (goals_of s formula)
      (record { variables = variables_of old.changes; goals = goals_at old.goals old.first }) ready.sound.facts_in
      (goals-in s variable_count formula ready.asked.scope) ready.sound.stands.pending

  head-in : (gs : List Goal) (g : Goal) (rest : List Goal) → gs ≡ g ∷ rest
      → AllByRecursion (IsGoalIn s.objects (variables_of old.changes)) gs → IsGoalIn s.objects (variables_of old.changes) g
  head-in gs g rest is all = (rw is at all).0

  pub ready-in : IsGoalIn s.objects (variables_of old.changes) (goal_in old goal)
  ready-in = head-in (goals_at old.goals old.first) (goal_in old goal) (goals_at old.goals goal.next) ready-open all_in

  pub ready-below : IsLitBelow (variables_of old.changes) goal.lit
  ready-below = lit-plain s.objects (variables_of old.changes) goal.lit ready-in.lit

  pub ready-path_below : All (IsLitBelow (variables_of old.changes)) (path_at old.goals goal.above)
  ready-path_below = lits-plain s.objects (variables_of old.changes) (path_at old.goals goal.above) ready-in.path

  head-near : (k : ℕ) (gs : List Goal) (g : Goal) (rest : List Goal) → gs ≡ g ∷ rest → AllByRecursion (IsNear k) gs → IsNear k g
  head-near k gs g rest is all = (rw is at all).0

  pub ready-near : length (path_at old.goals goal.above) ≤ u32_max
  ready-near =
      let near = head-near (0 + length ticks) (goals_at old.goals old.first) (goal_in old goal) (goals_at old.goals goal.next) ready-open
      (open-near loose s ticks variable_count 0 (goals_of s formula)
      (record { variables = variables_of old.changes; goals = goals_at old.goals old.first })
      (goals-near loose s formula) ready.sound.stands.pending) in
      omega (arith, near, ready.room)

  fit-at : (number : ℕ) (clause : Clause) → slice_get s.axioms number ≡ Some clause → IsFit (variables_of old.changes) clause
  fit-at number clause is =
      let few : clause.variable_count ≤ most_formula_variables =
      All-got (λ (c : Clause). c.variable_count ≤ most_formula_variables) s.axioms number clause ready.asked.clauses is in
      record {
        few = few;
        small = omega (arith, few, ready.sound.few, ready.asked.few_variables, ready.room);
        plain = lits-plain s.objects clause.variable_count clause.lits (ready.asked.setting.clauses number clause is);
      }

  pub ready-fit : All (IsFit (variables_of old.changes)) s.axioms
  ready-fit k d within = fit-at k (get_or s.axioms k d) (slice_get-read s.axioms k d within)
