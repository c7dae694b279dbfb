-- Where a place is open besides the first, one more tick finishes nothing.
use Rattle.std.proofs.Common.{◌≡◌, ℕ, suc, ◌+◌, ◌-◌, ◌<◌, ◌≤◌, Bool, true, Option, Some, None, List, [], ◌∷◌, ◌++◌, length, get_or, slice_get, ap, sym, ◌∙◌, refl, inl, inr, arith, length-append}
use Rattle.std.proofs.lemmas.Option.{slice_get-get_or}
use Rattle.px_proof.specs.declared.shape.Tick.{Tick}
use Rattle.px_prover.proofs.Moves.{open-next, standing-sound}
use Rattle.px_prover.proofs.PatternPassing.{patterns-more}
use Rattle.px_prover.specs.Patterns.{ArePatternsOf}
use Rattle.px_prover.specs.Standing.{ticks_in, IsStanding}
use Rattle.px_prover.specs.declared.pattern.GapPattern.{GapPattern}
use Rattle.px_question.specs.Settings.{Setting}
use Rattle.px_proof_state.specs.Arena.{goals_at, AreOlder}
use Rattle.px_proof_state.specs.States.{ProofStateValue}
use Rattle.px_proof_state.specs.declared.open.OpenGoal.{OpenGoal}
use Rattle.px_terms.specs.declared.atom.Atom.{Atom}
use Rattle.px_unify.specs.Changes.{variables_of}
use Rattle.px_proof_walk.specs.Pending.{Goal, Pending, open_after, goals_of, Closing, closing_at, fresh_of}
use Rattle.px_proof_walk.proofs.Lifting.{open_after-step}
use Rattle.px_proof_walk.specs.Possible.{IsPossible, IsFinished, left_of}

-- a goal that names another open after it isn't the only one
pub other-open : (arena : List OpenGoal) (at : ℕ) (g : OpenGoal) → AreOlder arena → 0 < at → at ≤ length arena
    → slice_get arena (at - 1) ≡ Some g → 0 < g.next → 1 < length (goals_at arena at)
other-open arena at g older some within is next =
    let here = open-next arena at g older some is in
    let there =
    open-next arena g.next (get_or arena (g.next - 1) g) older next
    (slice_get-get_or arena (g.next - 1) g (omega (arith, here.1, within, next, some))) in
    omega (arith, here.0, there.0)

module _ (loose : Bool) (s : Setting) (formula : List Atom) (variable_count : ℕ) where
  -- a closing leaves open what comes after the first place
  still-open : (ticks : List Tick) (u : Tick) (n : ℕ) (goals : List Goal) (p q : Pending) → open_after loose s n goals ticks ≡ Some p
      → 1 < length p.goals → open_after loose s n goals (ticks ++ u ∷ []) ≡ Some q → 0 < length q.goals
  still-open [] u n [] p q now two later = absurd (cc)
  still-open [] u n (g ∷ goals) p q now two later = go (closing_at loose s n g u) refl
    where
      go : (o : Option Closing) → closing_at loose s n g u ≡ o → 0 < length q.goals
      go None is = absurd (let none = rw is at later in cc)
      go (Some closing) is =
          let same : length (closing.parts ++ goals) ≡ length q.goals =
          ap left_of (sym (open_after-step loose s n g goals u [] closing is) ∙ later) in
          let first : suc (length goals) ≡ length p.goals = ap left_of now in
          omega (arith, two, same, first, length-append closing.parts goals)
  still-open (t ∷ ticks) u n [] p q now two later = absurd (cc)
  still-open (t ∷ ticks) u n (g ∷ goals) p q now two later =
      go (closing_at loose s n g t) refl (λ closing. still-open ticks u (n + fresh_of s t) (closing.parts ++ goals) p q)
    where
      go : (o : Option Closing) → closing_at loose s n g t ≡ o
          → ((closing : Closing) → open_after loose s (n + fresh_of s t) (closing.parts ++ goals) ticks ≡ Some p → 1 < length p.goals
          → open_after loose s (n + fresh_of s t) (closing.parts ++ goals) (ticks ++ u ∷ []) ≡ Some q → 0 < length q.goals)
          → 0 < length q.goals
      go None is next = absurd (let none = rw is at now in cc)
      go (Some closing) is next =
          next closing (sym (open_after-step loose s n g goals t ticks closing is) ∙ now) two
          (sym (open_after-step loose s n g goals t (ticks ++ u ∷ []) closing is) ∙ later)

  none-finished : (v : ProofStateValue) → IsStanding loose s formula variable_count v → 1 < length (goals_at v.goals v.first) → (u : Tick)
      → IsPossible loose s formula variable_count (ticks_in v.choices ++ u ∷ []) → ¬ IsFinished loose s formula variable_count (ticks_in v.choices ++ u ∷ [])
  none-finished v standing two u possible finished =
      let none : left_of (open_after loose s variable_count (goals_of s formula) (ticks_in v.choices ++ u ∷ [])) ≡ 0 = finished in
      let some =
      still-open (ticks_in v.choices) u variable_count (goals_of s formula)
      (record { variables = variables_of v.changes; goals = goals_at v.goals v.first }) possible.1.0
      (standing-sound loose s formula variable_count v standing).stands.pending two possible.1.1 in
      omega (arith, some, sym (ap left_of possible.1.1) ∙ none)

-- so there is nothing to gather
pub nothing-more : (kept : ℕ) (s : Setting) (formula : List Atom) (variable_count : ℕ) (v : ProofStateValue) → IsStanding true s formula variable_count v
    → 1 < length (goals_at v.goals v.first) → (seen : List (List Tick)) (found : List GapPattern)
    → ArePatternsOf kept s formula variable_count seen found → ArePatternsOf kept s formula variable_count (seen ++ ticks_in v.choices ∷ []) found
nothing-more kept s formula variable_count v standing two seen found are =
    patterns-more kept s formula variable_count seen (ticks_in v.choices) found found are (
      λ all. all,
      λ objects gaps. (
        λ offered. inl offered,
        λ offered. elim offered [
          | inl before ↦ before
          | inr gives ↦ absurd (none-finished true s formula variable_count v standing two gives.0 gives.1.1.0 gives.1.1.1)
        ],
      ),
    )
