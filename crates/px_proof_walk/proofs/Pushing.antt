-- One more tick at the end.
use Rattle.std.proofs.Common.{◌≡◌, ◌↔◌, ℕ, ◌+◌, ◌≤◌, Bool, Option, Some, None, List, [], ◌∷◌, ◌++◌, refl, ap, sym, ◌∙◌, arith, append_assoc}
use Rattle.std.specs.Prelude.{IsSomeAnd}
use Rattle.px_base.specs.Answers.{some_same}
use Rattle.px_proof.specs.Literals.{substitute_literal}
use Rattle.px_terms.specs.declared.term.Term.{Term}
use Rattle.px_terms.specs.declared.atom.Atom.{Atom}
use Rattle.px_proof.specs.declared.shape.Tick.{Tick}
use Rattle.px_question.specs.Settings.{Setting}
use Rattle.px_question.specs.Answers.{object_terms}
use Rattle.px_proof_walk.specs.Pending.{Goal, Closing, Pending, Solves, open_after, closing_at, fresh_of, goals_of, IsFeasible}
use Rattle.px_proof_walk.specs.Order.{IsPrefixClosed}
use Rattle.px_proof_walk.proofs.Lifting.{variables_grow}

module _ (loose : Bool) (s : Setting) where
  open_after-step : (n : ℕ) (goal : Goal) (goals : List Goal) (tick : Tick) (ticks : List Tick) (closing : Closing)
      → closing_at loose s n goal tick ≡ Some closing
      → open_after loose s n (goal ∷ goals) (tick ∷ ticks) ≡ open_after loose s (n + fresh_of s tick) (closing.parts ++ goals) ticks
  open_after-step n goal goals tick ticks closing is = rw is refl

  -- a list of ticks is followed by one more
  module _ (tick : Tick) (goal : Goal) (goals : List Goal) (last : ℕ) where
    pub open_after-push : (ticks : List Tick) (n : ℕ) (start : List Goal) (closing : Closing)
        → open_after loose s n start ticks ≡ Some (record { variables = last; goals = goal ∷ goals })
        → closing_at loose s last goal tick ≡ Some closing
        → open_after loose s n start (ticks ++ tick ∷ [])
        ≡ Some (record { variables = last + fresh_of s tick; goals = closing.parts ++ goals })
    open_after-push [] n start closing now is =
        let same = some_same now in
        let n_is : n ≡ last = ap (λ (p : Pending). p.variables) same in
        let start_is : start ≡ goal ∷ goals = ap (λ (p : Pending). p.goals) same in
        rw (start_is, n_is, is) refl
    open_after-push (t ∷ ticks) n [] closing now is = absurd (cc)
    open_after-push (t ∷ ticks) n (g ∷ start) closing now is =
        go (closing_at loose s n g t) refl (λ first now'. open_after-push ticks (n + fresh_of s t) (first.parts ++ start) closing now' is)
      where
        go : (o : Option Closing) → closing_at loose s n g t ≡ o
            → ((first : Closing) → open_after loose s (n + fresh_of s t) (first.parts ++ start) ticks
            ≡ Some (record { variables = last; goals = goal ∷ goals })
            → open_after loose s (n + fresh_of s t) (first.parts ++ start) (ticks ++ tick ∷ [])
            ≡ Some (record { variables = last + fresh_of s tick; goals = closing.parts ++ goals }))
            → open_after loose s n (g ∷ start) ((t ∷ ticks) ++ tick ∷ [])
            ≡ Some (record { variables = last + fresh_of s tick; goals = closing.parts ++ goals })
        go None first_is later = absurd (let none = rw first_is at now in cc)
        go (Some first) first_is later =
            open_after-step n g start t (ticks ++ tick ∷ []) first first_is
            ∙ later first (sym (open_after-step n g start t ticks first first_is) ∙ now)

    pub solves-push : (tau : List Term) (ticks : List Tick) (n : ℕ) (start : List Goal)
        → open_after loose s n start ticks ≡ Some (record { variables = last; goals = goal ∷ goals })
        → Solves loose s tau n start (ticks ++ tick ∷ [])
        ↔ (Solves loose s tau n start ticks
        × IsSomeAnd (closing_at loose s last goal tick)
        (λ closing. substitute_literal tau goal.lit ≡ substitute_literal tau closing.equal_to))
    solves-push tau [] n start now =
        let same = some_same now in
        let n_is : n ≡ last = ap (λ (p : Pending). p.variables) same in
        let start_is : start ≡ goal ∷ goals = ap (λ (p : Pending). p.goals) same in
        rw (start_is, n_is) (here (closing_at loose s last goal tick))
      where
        here : (o : Option Closing)
            → IsSomeAnd o (λ closing. (substitute_literal tau goal.lit ≡ substitute_literal tau closing.equal_to) × Unit {0})
            ↔ (Unit {0} × IsSomeAnd o (λ closing. substitute_literal tau goal.lit ≡ substitute_literal tau closing.equal_to))
        here None = (λ h. absurd h, λ h. h.1)
        here (Some closing) = (λ h. (tt, h.0), λ h. (h.1, tt))
    solves-push tau (t ∷ ticks) n [] now = absurd (cc)
    solves-push tau (t ∷ ticks) n (g ∷ start) now =
        go (closing_at loose s n g t) refl (λ first now'. solves-push tau ticks (n + fresh_of s t) (first.parts ++ start) now')
      where
        Later : List Tick → Closing → Type 0
        Later more closing =
            (substitute_literal tau g.lit ≡ substitute_literal tau closing.equal_to)
            × Solves loose s tau (n + fresh_of s t) (closing.parts ++ start) more

        Right : Type 0
        Right =
            IsSomeAnd (closing_at loose s last goal tick)
            (λ closing. substitute_literal tau goal.lit ≡ substitute_literal tau closing.equal_to)

        go : (o : Option Closing) → closing_at loose s n g t ≡ o
            → ((first : Closing) → open_after loose s (n + fresh_of s t) (first.parts ++ start) ticks
            ≡ Some (record { variables = last; goals = goal ∷ goals })
            → Solves loose s tau (n + fresh_of s t) (first.parts ++ start) (ticks ++ tick ∷ [])
            ↔ (Solves loose s tau (n + fresh_of s t) (first.parts ++ start) ticks
            × IsSomeAnd (closing_at loose s last goal tick)
            (λ closing. substitute_literal tau goal.lit ≡ substitute_literal tau closing.equal_to)))
            → IsSomeAnd o (λ closing. (substitute_literal tau g.lit ≡ substitute_literal tau closing.equal_to)
            × Solves loose s tau (n + fresh_of s t) (closing.parts ++ start) (ticks ++ tick ∷ []))
            ↔ (IsSomeAnd o (λ closing. (substitute_literal tau g.lit ≡ substitute_literal tau closing.equal_to)
            × Solves loose s tau (n + fresh_of s t) (closing.parts ++ start) ticks)
            × IsSomeAnd (closing_at loose s last goal tick)
            (λ closing. substitute_literal tau goal.lit ≡ substitute_literal tau closing.equal_to))
        go None first_is later = (λ h. absurd h, λ h. h.0)
        go (Some first) first_is later =
            let both = later first (sym (open_after-step n g start t ticks first first_is) ∙ now) in
            (λ h. let k = both.0 h.1 in ((h.0, k.0), k.1), λ h. (h.0.0, both.1 (h.0.1, h.1)))

  -- what holds of more ticks holds of fewer
  pub solves-prefix : (tau : List Term) (ticks more : List Tick) (n : ℕ) (start : List Goal) → Solves loose s tau n start (ticks ++ more)
      → Solves loose s tau n start ticks
  solves-prefix tau [] more n start solves = tt
  solves-prefix tau (t ∷ ticks) more n [] solves = absurd solves
  solves-prefix tau (t ∷ ticks) more n (g ∷ start) solves =
      go (closing_at loose s n g t) solves (λ closing. solves-prefix tau ticks more (n + fresh_of s t) (closing.parts ++ start))
    where
      go : (o : Option Closing)
          → IsSomeAnd o (λ closing. (substitute_literal tau g.lit ≡ substitute_literal tau closing.equal_to)
          × Solves loose s tau (n + fresh_of s t) (closing.parts ++ start) (ticks ++ more))
          → ((closing : Closing) → Solves loose s tau (n + fresh_of s t) (closing.parts ++ start) (ticks ++ more)
          → Solves loose s tau (n + fresh_of s t) (closing.parts ++ start) ticks)
          → IsSomeAnd o (λ closing. (substitute_literal tau g.lit ≡ substitute_literal tau closing.equal_to)
          × Solves loose s tau (n + fresh_of s t) (closing.parts ++ start) ticks)
      go None closes later = closes
      go (Some closing) closes later = (closes.0, later closing closes.1)

  -- where more ticks lead somewhere, so do fewer, with no more variables
  pub open_after-prefix : (ticks more : List Tick) (n : ℕ) (start : List Goal) (p : Pending)
      → open_after loose s n start (ticks ++ more) ≡ Some p
      → (q : Pending) × (open_after loose s n start ticks ≡ Some q) × (q.variables ≤ p.variables)
  open_after-prefix [] more n start p now = (record { variables = n; goals = start }, refl, variables_grow loose s more n start p now)
  open_after-prefix (t ∷ ticks) more n [] p now = absurd (cc)
  open_after-prefix (t ∷ ticks) more n (g ∷ start) p now =
      go (closing_at loose s n g t) refl (λ first now'. open_after-prefix ticks more (n + fresh_of s t) (first.parts ++ start) p now')
    where
      go : (o : Option Closing) → closing_at loose s n g t ≡ o
          → ((first : Closing) → open_after loose s (n + fresh_of s t) (first.parts ++ start) (ticks ++ more) ≡ Some p
          → (q : Pending) × (open_after loose s (n + fresh_of s t) (first.parts ++ start) ticks ≡ Some q) × (q.variables ≤ p.variables))
          → (q : Pending) × (open_after loose s n (g ∷ start) (t ∷ ticks) ≡ Some q) × (q.variables ≤ p.variables)
      go None first_is later = absurd (let none = rw first_is at now in cc)
      go (Some first) first_is later =
          let found = later first (sym (open_after-step n g start t (ticks ++ more) first first_is) ∙ now) in
          (found.0, open_after-step n g start t ticks first first_is ∙ found.1, found.2)

-- a list of ticks is feasible only where each shorter one is
pub feasible-shorter : (loose : Bool) (s : Setting) (formula : List Atom) (variable_count : ℕ) → IsPrefixClosed (IsFeasible loose s formula variable_count)
feasible-shorter loose s formula variable_count ticks tick more (p, now, (objects, enough, below, solves)) =
    let whole : ticks ++ tick ∷ more ≡ (ticks ++ tick ∷ []) ++ more = sym (append_assoc ticks (tick ∷ []) more) in
    let prefix = open_after-prefix loose s (ticks ++ tick ∷ []) more variable_count (goals_of s formula) p (rw whole at now) in (
      prefix.0,
      prefix.1,
      (
        objects,
        omega (arith, prefix.2, enough),
        below,
        solves-prefix loose s (object_terms objects) (ticks ++ tick ∷ []) more variable_count (goals_of s formula) (rw whole at solves),
      ),
    )
