-- What attempts at the axioms say of longer lists of ticks.
use Rattle.std.proofs.Common.{◌≡◌, ◌⊎◌, ℕ, zero, suc, ◌<◌, ◌≤◌, Bool, true, false, ◌||◌, Option, Some, None, List, [], ◌∷◌, ◌++◌, length, slice_get, refl, ◌∙◌, arith, inl, inr}
use Rattle.std.specs.Prelude.{nat_le}
use Rattle.px_terms.specs.declared.term.Term.{Term}
use Rattle.px_terms.specs.declared.atom.Atom.{Atom}
use Rattle.px_terms.specs.declared.clause.Lit.{Lit}
use Rattle.px_terms.specs.declared.clause.Clause.{Clause}
use Rattle.px_proof.specs.declared.shape.Tick.{Tick}
use Rattle.px_proof.specs.declared.shape.Tick.TheVariants.{Step}
use Rattle.px_proof.specs.Proves.{instance_of, parts_of}
use Rattle.px_unify.specs.Changes.{variables_of}
use Rattle.px_question.specs.Settings.{Setting}
use Rattle.px_terms.specs.Substitution.{variables_from}
use Rattle.px_proof_walk.specs.Pending.{Goal, goals_below, has_room, IsFeasible}
use Rattle.px_proof_state.specs.declared.open.OpenGoal.{OpenGoal}
use Rattle.px_proof_state.specs.Arena.{goals_at, path_at}
use Rattle.px_proof_state.specs.States.{ProofStateValue, Stands}
use Rattle.px_proof_state.specs.Steps.{ClosesByStep, new_literal}
use Rattle.px_proof_state.specs.Axioms.{IsFrom, NeverAxiom, ComesAxiom}
use Rattle.px_prover.proofs.StepTurns.{step-closing, step-none, none-at, none-agree, stands-stepped}

or_right : (a b : Bool) → b ≡ true → (a || b) ≡ true
or_right true b e = refl
or_right false b e = e

is_le : (m n : ℕ) → m ≤ n → nat_le m n ≡ true
is_le m n h = grind (arith, h)

le_is : (m n : ℕ) → nat_le m n ≡ true → m ≤ n
le_is m n e = grind (arith, e)

room-true : (goal : Goal) (clause : Clause) → (length clause.lits ≤ 1) ⊎ (2 ≤ goal.budget) → has_room goal clause ≡ true
room-true goal clause (inl h) = rw (is_le (length clause.lits) 1 h) refl
room-true goal clause (inr h) = or_right (nat_le (length clause.lits) 1) (nat_le 2 goal.budget) (is_le 2 goal.budget h)

true-room : (goal : Goal) (clause : Clause) → has_room goal clause ≡ true → (length clause.lits ≤ 1) ⊎ (2 ≤ goal.budget)
true-room goal clause e = go (nat_le (length clause.lits) 1) (nat_le 2 goal.budget) refl refl e
  where
    go : (a b : Bool) → nat_le (length clause.lits) 1 ≡ a → nat_le 2 goal.budget ≡ b → (a || b) ≡ true
        → (length clause.lits ≤ 1) ⊎ (2 ≤ goal.budget)
    go true b is_a is_b both = inl (le_is (length clause.lits) 1 is_a)
    go false b is_a is_b both = inr (le_is 2 goal.budget (is_b ∙ both))

none-past : (lits : List Lit) (theta : List Term) (place : ℕ) → length lits ≤ place → slice_get (instance_of lits theta) place ≡ None
none-past [] theta zero past = refl
none-past [] theta (suc place) past = refl
none-past (l ∷ lits) theta zero past = absurd (omega (arith, past))
none-past (l ∷ lits) theta (suc place) past = none-past lits theta place (omega (arith, past))

less_or_not : (m n : ℕ) → (m < n) ⊎ (n ≤ m)
less_or_not m zero = inr (omega arith)
less_or_not zero (suc n) = inl (omega arith)
less_or_not (suc m) (suc n) = elim (less_or_not m n) [ inl h ↦ inl (omega (arith, h)) | inr h ↦ inr (omega (arith, h)) ]

module _ (loose : Bool) (s : Setting) (formula : List Atom) (variable_count : ℕ) (ticks : List Tick) (old new : ProofStateValue)
    (stands : Stands loose s formula variable_count ticks old)
    (g : OpenGoal) (goal : Goal) (goals : List Goal) (open_is : goals_at old.goals old.first ≡ goal ∷ goals)
    (rest_is : goals_at old.goals g.next ≡ goals)
    (lit_is : g.lit ≡ goal.lit) (path_is : path_at old.goals old.first ≡ goal.lit ∷ goal.path) (budget_is : g.budget ≡ goal.budget)
    (from place : ℕ) where
  -- a place that never does leads nowhere
  pub axiom-nowhere : (k : ℕ) → NeverAxiom s.axioms old g from place k → (start : ℕ) → IsFrom k from place start → (p : ℕ) → start ≤ p
      → ¬ IsFeasible loose s formula variable_count (ticks ++ Step k p ∷ [])
  axiom-nowhere k never start begins p after = by_axiom (slice_get s.axioms k) refl
    where
      by_place : (clause : Clause) → slice_get s.axioms k ≡ Some clause → has_room goal clause ≡ true
          → (p < length clause.lits) ⊎ (length clause.lits ≤ p) → ¬ IsFeasible loose s formula variable_count (ticks ++ Step k p ∷ [])
      by_place clause at room (inl within) =
          none-agree loose s formula variable_count ticks old old stands (Step k p) goal goals open_is
          (record {
            equal_to = new_literal (variables_of old.changes) clause p;
            parts = goals_below goal (parts_of clause.lits (variables_from (variables_of old.changes) clause.variable_count) p);
          })
          (step-closing loose s (variables_of old.changes) goal k p clause at room within)
          (rw lit_is at (never clause at start begins p after within (rw budget_is (true-room goal clause room))))
      by_place clause at room (inr past) =
          none-at loose s formula variable_count ticks old old stands (Step k p) goal goals open_is
          (let none = none-past clause.lits (variables_from (variables_of old.changes) clause.variable_count) p past in rw (at, room, none) refl)

      by_room : (clause : Clause) → slice_get s.axioms k ≡ Some clause → (b : Bool) → has_room goal clause ≡ b
          → ¬ IsFeasible loose s formula variable_count (ticks ++ Step k p ∷ [])
      by_room clause at true room = by_place clause at room (less_or_not p (length clause.lits))
      by_room clause at false room =
          none-at loose s formula variable_count ticks old old stands (Step k p) goal goals open_is
          (step-none loose s (variables_of old.changes) goal k p clause at room)

      by_axiom : (o : Option Clause) → slice_get s.axioms k ≡ o → ¬ IsFeasible loose s formula variable_count (ticks ++ Step k p ∷ [])
      by_axiom None at = none-at loose s formula variable_count ticks old old stands (Step k p) goal goals open_is (rw at refl)
      by_axiom (Some clause) at = by_room clause at (has_room goal clause) refl

  -- the axiom and the place that close the goal, and that the places before lead nowhere
  pub record ComesFirst (k : ℕ) : Type 0 where
    pub clause : Clause
    pub is_at : slice_get s.axioms k ≡ Some clause
    pub start : ℕ
    pub begins : IsFrom k from place start
    pub p : ℕ
    pub after : start ≤ p
    pub closes : ClosesByStep old new (Step k p) g clause p true
    pub stays : Stands loose s formula variable_count (ticks ++ Step k p ∷ []) new
    pub before : (q : ℕ) → start ≤ q → q < p → ¬ IsFeasible loose s formula variable_count (ticks ++ Step k q ∷ [])

  pub axiom-first : (k : ℕ) → ComesAxiom s.axioms old g from place k new → ComesFirst k
  axiom-first k (clause, at, (start, begins, tried)) =
      let found = tried.least refl in
      let room : has_room goal clause ≡ true = room-true goal clause (rw budget_is at found.3.0) in
      record {
        clause = clause;
        is_at = at;
        start = start;
        begins = begins;
        p = found.0;
        after = found.1;
        closes = found.3.1;
        stays =
            stands-stepped loose s formula variable_count ticks old new stands g goal goals open_is rest_is lit_is path_is budget_is k found.0 clause
            at room found.2 found.3.1;
        before = λ q after before. none-agree loose s formula variable_count ticks old old stands (Step k q) goal goals open_is
            (record {
              equal_to = new_literal (variables_of old.changes) clause q;
              parts = goals_below goal (parts_of clause.lits (variables_from (variables_of old.changes) clause.variable_count) q);
            })
            (step-closing loose s (variables_of old.changes) goal k q clause at room (omega (arith, before, found.2)))
            (rw lit_is at (found.4 q after before found.3.0));
      }
