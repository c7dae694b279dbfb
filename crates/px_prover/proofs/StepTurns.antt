-- What holds between attempts goes on to hold where a clause closes a place and its parts are opened.
use Rattle.std.proofs.Common.{◌≡◌, ◌↔◌, ℕ, zero, suc, ◌+◌, ◌-◌, ◌<◌, Bool, true, false, Some, None, List, [], ◌∷◌, ◌++◌, length, get_or, slice_get, refl, ap, sym, ◌∙◌, arith}
use Rattle.px_proof.specs.Literals.{substitute_literal}
use Rattle.px_terms.specs.declared.term.Term.{Term}
use Rattle.px_terms.specs.declared.atom.Atom.{Atom}
use Rattle.px_terms.specs.declared.clause.Lit.{Lit}
use Rattle.px_terms.specs.declared.clause.Clause.{Clause}
use Rattle.px_proof.specs.declared.shape.Tick.{Tick}
use Rattle.px_proof.specs.declared.shape.Tick.TheVariants.{Step}
use Rattle.px_proof.specs.Proves.{instance_of, parts_of}
use Rattle.px_unify.specs.Changes.{Fits, variables_of}
use Rattle.px_question.specs.Settings.{Setting}
use Rattle.px_terms.specs.Substitution.{variables_from}
use Rattle.px_proof_walk.specs.Pending.{Goal, Closing, open_after, closing_at, fresh_of, variable_count_of, goals_of, goals_below, has_room, IsFeasible}
use Rattle.px_proof_walk.proofs.Pushing.{open_after-push}
use Rattle.px_proof_walk.proofs.Attempts.{matched-push, infeasible-clash, infeasible-none}
use Rattle.px_proof_state.specs.declared.open.OpenGoal.{OpenGoal}
use Rattle.px_proof_state.specs.Arena.{goals_at, path_at}
use Rattle.px_proof_state.specs.Parts.{goals_under}
use Rattle.px_proof_state.specs.States.{ProofStateValue, Stands}
use Rattle.px_proof_state.specs.Steps.{ClosesByStep, new_literal, no_literal}

slice_get-literal : (lits : List Lit) (theta : List Term) (place : ℕ) (d : Lit) → place < length lits
    → slice_get (instance_of lits theta) place ≡ Some (substitute_literal theta (get_or lits place d))
slice_get-literal [] theta place d within = absurd (omega (arith, within))
slice_get-literal (l ∷ lits) theta zero d within = refl
slice_get-literal (l ∷ lits) theta (suc place) d within = slice_get-literal lits theta place d (omega (arith, within))

-- how a clause with room closes the goal
pub step-closing : (loose : Bool) (s : Setting) (n : ℕ) (goal : Goal) (number place : ℕ) (clause : Clause)
    → slice_get s.axioms number ≡ Some clause → has_room goal clause ≡ true → place < length clause.lits
    → closing_at loose s n goal (Step number place)
    ≡ Some (record {
      equal_to = new_literal n clause place;
      parts = goals_below goal (parts_of clause.lits (variables_from n clause.variable_count) place);
    })
step-closing loose s n goal number place clause is room within =
    let literal = slice_get-literal clause.lits (variables_from n clause.variable_count) place no_literal within in
    rw (is, room, literal) refl

-- and that it doesn't without room, or where there is none
pub step-none : (loose : Bool) (s : Setting) (n : ℕ) (goal : Goal) (number place : ℕ) (clause : Clause)
    → slice_get s.axioms number ≡ Some clause → has_room goal clause ≡ false → closing_at loose s n goal (Step number place) ≡ None
step-none loose s n goal number place clause is room = rw (is, room) refl

goals-same : (goal : Goal) (path : List Lit) (budget : ℕ) (lits : List Lit) → path ≡ goal.lit ∷ goal.path → budget ≡ goal.budget - 1
    → goals_under path budget lits ≡ goals_below goal lits
goals-same goal path budget lits path_is budget_is = rw (path_is, budget_is) refl

module _ (loose : Bool) (s : Setting) (formula : List Atom) (variable_count : ℕ) (ticks : List Tick) (old new : ProofStateValue)
    (stands : Stands loose s formula variable_count ticks old)
    (tick : Tick) (goal : Goal) (goals : List Goal) (open_is : goals_at old.goals old.first ≡ goal ∷ goals) where
  now : open_after loose s variable_count (goals_of s formula) ticks ≡ Some (record { variables = variables_of old.changes; goals = goal ∷ goals })
  now = rw (← open_is) stands.pending

  -- a state in which the closing's literal is equal to the goal's and its parts come first
  pub stands-longer : (closing : Closing) → closing_at loose s (variables_of old.changes) goal tick ≡ Some closing
      → ((tau : List Term) → Fits tau new.changes
      ↔ (Fits tau old.changes × (substitute_literal tau goal.lit ≡ substitute_literal tau closing.equal_to)))
      → variables_of new.changes ≡ variables_of old.changes + fresh_of s tick → goals_at new.goals new.first ≡ closing.parts ++ goals
      → Stands loose s formula variable_count (ticks ++ tick ∷ []) new
  stands-longer closing is agree variables parts = record {
    pending =
        rw (parts, variables) (open_after-push loose s tick goal goals (variables_of old.changes) ticks variable_count
        (goals_of s formula) closing now is);
    matched =
        matched-push loose s formula variable_count (variables_of old.changes) goal goals ticks old.changes tick now stands.matched new.changes
        closing is agree;
  }

  pub none-at : closing_at loose s (variables_of old.changes) goal tick ≡ None → ¬ IsFeasible loose s formula variable_count (ticks ++ tick ∷ [])
  none-at is = infeasible-none loose s formula variable_count (variables_of old.changes) goal goals ticks old.changes tick now stands.matched is

  pub none-agree : (closing : Closing) → closing_at loose s (variables_of old.changes) goal tick ≡ Some closing
      → ((tau : List Term) → Fits tau old.changes → ¬ (substitute_literal tau goal.lit ≡ substitute_literal tau closing.equal_to))
      → ¬ IsFeasible loose s formula variable_count (ticks ++ tick ∷ [])
  none-agree closing is never =
      infeasible-clash loose s formula variable_count (variables_of old.changes) goal goals ticks old.changes tick now stands.matched closing is never

-- the same for a step
module _ (loose : Bool) (s : Setting) (formula : List Atom) (variable_count : ℕ) (ticks : List Tick) (old new : ProofStateValue)
    (stands : Stands loose s formula variable_count ticks old)
    (g : OpenGoal) (goal : Goal) (goals : List Goal) (open_is : goals_at old.goals old.first ≡ goal ∷ goals)
    (rest_is : goals_at old.goals g.next ≡ goals)
    (lit_is : g.lit ≡ goal.lit) (path_is : path_at old.goals old.first ≡ goal.lit ∷ goal.path) (budget_is : g.budget ≡ goal.budget)
    (number place : ℕ) (clause : Clause) (axiom_is : slice_get s.axioms number ≡ Some clause) (room : has_room goal clause ≡ true)
    (within : place < length clause.lits) where
  is : closing_at loose s (variables_of old.changes) goal (Step number place)
      ≡ Some (record {
        equal_to = new_literal (variables_of old.changes) clause place;
        parts = goals_below goal (parts_of clause.lits (variables_from (variables_of old.changes) clause.variable_count) place);
      })
  is = step-closing loose s (variables_of old.changes) goal number place clause axiom_is room within

  pub stands-stepped : ClosesByStep old new (Step number place) g clause place true
      → Stands loose s formula variable_count (ticks ++ Step number place ∷ []) new
  stands-stepped closes =
      let fresh : fresh_of s (Step number place) ≡ clause.variable_count = ap variable_count_of axiom_is in
      let parts : goals_at new.goals new.first
      ≡ goals_below goal (parts_of clause.lits (variables_from (variables_of old.changes) clause.variable_count) place) ++ goals =
      closes.opened refl
      ∙ ap (λ gs. gs ++ goals_at old.goals g.next) (goals-same goal (path_at old.goals old.first) (g.budget - 1)
      (parts_of clause.lits (variables_from (variables_of old.changes) clause.variable_count) place) path_is (ap (λ b. b - 1) budget_is))
      ∙ ap (λ gs. goals_below goal (parts_of clause.lits (variables_from (variables_of old.changes) clause.variable_count) place) ++ gs) rest_is in
      stands-longer loose s formula variable_count ticks old new stands (Step number place) goal goals open_is
      (record {
        equal_to = new_literal (variables_of old.changes) clause place;
        parts = goals_below goal (parts_of clause.lits (variables_from (variables_of old.changes) clause.variable_count) place);
      })
      is
      (rw lit_is at (closes.is_match.agree refl))
      (closes.is_match.variables refl ∙ ap (λ k. variables_of old.changes + k) (sym fresh))
      parts
