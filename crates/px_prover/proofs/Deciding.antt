-- What the end of a walk says of the formula.
use Rattle.std.proofs.Common.{◌≡◌, ◌⊎◌, ℕ, false, List, ◌++◌, map, subst, ◌∙◌, inl, inr}
use Rattle.px_prover.specs.Standing.{IsProperQuestion}
use Rattle.px_proof.specs.Derivation.{Derivations}
use Rattle.px_proof.specs.Shapes.{ticks_of, ShapeBefore}
use Rattle.px_proof.specs.declared.shape.Tick.{Tick}
use Rattle.px_question.specs.Answers.{AtMost, IsAnswer, IsFirst, all_choices_of}
use Rattle.px_question.proofs.DeterminedLaws.{few_or_limited}
use Rattle.px_question.specs.Limits.{AreFewBefore, AreFewShapes, IsLimited}
use Rattle.px_question.specs.Settings.{Setting}
use Rattle.px_terms.specs.declared.atom.Atom.{Atom}
use Rattle.px_proof_walk.specs.Possible.{IsPossible, IsFinished, shape_of}
use Rattle.px_proof_walk.specs.Search.{ComesFirst, NoneComes, LimitComes}
use Rattle.px_proof_walk.proofs.Bridge.{possible-finished, finished-possible}
use Rattle.px_proof_walk.proofs.Outcomes.{first-few, limit-is, none-few, none-unprovable, not_seen}

module _ (s : Setting) (formula : List Atom) (variable_count : ℕ) (asked : IsProperQuestion s formula variable_count) where
  module _ (ticks : List Tick) (first : ComesFirst (IsPossible false s formula variable_count) (IsFinished false s formula variable_count) s.limit ticks)
      (objects : List ℕ) (ds : Derivations) (answer : IsFirst s formula variable_count objects ds) where
    -- the first answer has the ticks of the first finished list
    same-ticks : ticks_of ds ≡ ticks
    same-ticks =
        let made = possible-finished false s asked.setting formula variable_count asked.scope ticks first.possible first.finished in
        go (ticks_of made.1) made.3 (cases (ticks_of ds) (ticks_of made.1)
        (AtMost (objects ++ all_choices_of ds) (made.0 ++ all_choices_of made.1)) (answer.least made.0 made.1 made.2))
      where
        cases : (a b : List Tick) (P : Type 0) → ShapeBefore a b ⊎ ((a ≡ b) × P) → ShapeBefore a b ⊎ (a ≡ b)
        cases a b P (inl h) = inl h
        cases a b P (inr h) = inr h.0

        go : (found : List Tick) → found ≡ ticks → ShapeBefore (ticks_of ds) found ⊎ (ticks_of ds ≡ found) → ticks_of ds ≡ ticks
        go found is (inr e) = e ∙ is
        go found is (inl h) =
            let possible = finished-possible false s asked.setting formula variable_count asked.scope objects ds answer.finished in
            absurd (not_seen (IsFinished false s formula variable_count) (ticks_of ds) first.few.0
            (first.few.2.covers (ticks_of ds) possible.0 (subst (λ (ts : List Tick). ShapeBefore (ticks_of ds) ts) is h))
            first.few.2.unfinished possible.1)

    pub decided-few : AreFewBefore s formula variable_count ds
    decided-few = first-few s asked.setting formula variable_count asked.scope ticks ds first same-ticks

    pub decided-unlimited : (shapes : List (List Tick)) → ¬ IsLimited s formula variable_count shapes
    decided-unlimited shapes limited = few_or_limited.before s formula variable_count shapes objects ds answer.finished decided-few limited

  module _ (none : NoneComes (IsPossible false s formula variable_count) (IsFinished false s formula variable_count) s.limit) where
    pub decided-none : ¬ IsAnswer s formula variable_count
    decided-none = none-unprovable s asked.setting formula variable_count asked.scope none

    pub decided-none_few : AreFewShapes s formula variable_count
    decided-none_few = none-few s asked.setting formula variable_count asked.scope none

    pub decided-none_unlimited : (shapes : List (List Tick)) → ¬ IsLimited s formula variable_count shapes
    decided-none_unlimited shapes limited = few_or_limited.proofs s formula variable_count shapes decided-none_few limited

  pub decided-limit : (shapes seen : List (List Tick)) → shapes ≡ map (shape_of false s formula variable_count) seen
      → LimitComes (IsPossible false s formula variable_count) (IsFinished false s formula variable_count) s.limit seen → IsLimited s formula variable_count shapes
  decided-limit shapes seen are limit = rw are (limit-is s asked.setting formula variable_count asked.scope seen limit)
