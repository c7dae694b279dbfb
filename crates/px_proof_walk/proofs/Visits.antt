-- What a walk in order has seen.
use Rattle.px_proof_walk.proofs.Every.{all-push, all-weaker}
use Rattle.std.proofs.Common.{◌≡◌, ◌⊎◌, ℕ, ◌+◌, ◌<◌, List, [], ◌∷◌, ◌++◌, length, ◌∙◌, arith, inl, inr, length-append}
use Rattle.std.specs.Prelude.{Contains}
use Rattle.std.specs.List.{AllByRecursion}
use Rattle.std.proofs.lemmas.List.Elements.{Contains-append_left, Contains-push}
use Rattle.px_proof.specs.declared.shape.Tick.{Tick}
use Rattle.px_proof.specs.Shapes.{ShapeBefore}
use Rattle.px_proof_walk.specs.Order.{IsNext, NoneAfter}
use Rattle.px_question.specs.Limits.{IsAscending}
use Rattle.px_proof_walk.specs.Search.{AreAll, AreSeen, NoneComes, LimitComes}
use Rattle.px_proof_walk.proofs.Ordering.{shape_trichotomy, ShapeBefore-irrefl, ShapeBefore-trans}

ascending-push : (seen : List (List Tick)) (here : List Tick) → IsAscending seen → AllByRecursion (λ ticks. ShapeBefore ticks here) seen
    → IsAscending (seen ++ here ∷ [])
ascending-push [] here up before = (tt, tt)
ascending-push (t ∷ seen) here up before = (all-push (ShapeBefore t) seen here up.0 before.0, ascending-push seen here up.1 before.1)

module _ (P F : List Tick → Type 0) where
  pub seen-start : AreSeen P F [] []
  seen-start =
      record { ascending = tt; possible = tt; unfinished = tt; before = tt; covers = λ other holds before. absurd (none other before) }
    where
      none : (other : List Tick) → ¬ ShapeBefore other []
      none [] h = h
      none (t ∷ other) h = h

  module _ (seen : List (List Tick)) (here : List Tick) (are : AreSeen P F seen here) (possible : P here) (open_here : ¬ F here) where
    up : IsAscending (seen ++ here ∷ [])
    up = ascending-push seen here are.ascending are.before

    all_possible : AllByRecursion P (seen ++ here ∷ [])
    all_possible = all-push P seen here are.possible possible

    all_open : AllByRecursion (λ ticks. ¬ F ticks) (seen ++ here ∷ [])
    all_open = all-push (λ ticks. ¬ F ticks) seen here are.unfinished open_here

    -- a possible list has been seen, or stands after this one
    seen_or_after : (other : List Tick) → P other → Contains (seen ++ here ∷ []) other ⊎ ShapeBefore here other
    seen_or_after other holds = go (shape_trichotomy other here)
      where
        go : ShapeBefore other here ⊎ (other ≡ here) ⊎ ShapeBefore here other → Contains (seen ++ here ∷ []) other ⊎ ShapeBefore here other
        go (inl h) = inl (Contains-append_left seen (here ∷ []) other (are.covers other holds h))
        go (inr (inl e)) = inl (rw e (Contains-push seen here))
        go (inr (inr h)) = inr h

    pub seen-next : (next : List Tick) → IsNext P here next → AreSeen P F (seen ++ here ∷ []) next
    seen-next next is = record {
      ascending = up;
      possible = all_possible;
      unfinished = all_open;
      before =
          all-push (λ ticks. ShapeBefore ticks next) seen here
          (all-weaker (λ ticks. ShapeBefore ticks here) (λ ticks. ShapeBefore ticks next) seen
          (λ ticks h. ShapeBefore-trans ticks here next h is.later) are.before) is.later;
      covers = λ other holds before. go other before (seen_or_after other holds) (is.least other holds);
    }
      where
        not_least : (other : List Tick) → ShapeBefore other next → ¬ ((next ≡ other) ⊎ ShapeBefore next other)
        not_least other before (inl e) = ShapeBefore-irrefl other (rw e at before)
        not_least other before (inr h) = ShapeBefore-irrefl other (ShapeBefore-trans other next other before h)

        go : (other : List Tick) → ShapeBefore other next → Contains (seen ++ here ∷ []) other ⊎ ShapeBefore here other
            → (ShapeBefore here other → (next ≡ other) ⊎ ShapeBefore next other) → Contains (seen ++ here ∷ []) other
        go other before (inl h) least = h
        go other before (inr h) least = absurd (not_least other before (least h))

    pub none-comes : (limit : ℕ) → length seen + 1 < limit → NoneAfter P here → NoneComes P F limit
    none-comes limit few none = record {
      few = (
        seen ++ here ∷ [],
        omega (arith, few, length-append seen (here ∷ [])),
        up,
        all_open,
        λ other holds. go other holds (seen_or_after other holds),
      );
    }
      where
        go : (other : List Tick) → P other → Contains (seen ++ here ∷ []) other ⊎ ShapeBefore here other
            → Contains (seen ++ here ∷ []) other
        go other holds (inl h) = h
        go other holds (inr h) = absurd (none other holds h)

    pub all-come : (limit : ℕ) → length seen + 1 < limit → NoneAfter P here → AreAll P limit (seen ++ here ∷ [])
    all-come limit few none = record {
      few = omega (arith, few, length-append seen (here ∷ []));
      ascending = up;
      possible = all_possible;
      covers = λ other holds. go other holds (seen_or_after other holds);
    }
      where
        go : (other : List Tick) → P other → Contains (seen ++ here ∷ []) other ⊎ ShapeBefore here other
            → Contains (seen ++ here ∷ []) other
        go other holds (inl h) = h
        go other holds (inr h) = absurd (none other holds h)

    pub limit-comes : (limit : ℕ) → length seen + 1 ≡ limit → LimitComes P F limit (seen ++ here ∷ [])
    limit-comes limit full = record {
      count = length-append seen (here ∷ []) ∙ full;
      ascending = up;
      possible = all_possible;
      unfinished = all_open;
      first = λ other holds. go other (seen_or_after other holds);
    }
      where
        go : (other : List Tick) → Contains (seen ++ here ∷ []) other ⊎ ShapeBefore here other
            → Contains (seen ++ here ∷ []) other ⊎ AllByRecursion (λ ticks. ShapeBefore ticks other) (seen ++ here ∷ [])
        go other (inl h) = inl h
        go other (inr h) =
            inr (all-push (λ ticks. ShapeBefore ticks other) seen here
            (all-weaker (λ ticks. ShapeBefore ticks here) (λ ticks. ShapeBefore ticks other) seen
            (λ ticks k. ShapeBefore-trans ticks here other k h) are.before) h)

    pub length-seen : length (seen ++ here ∷ []) ≡ length seen + 1
    length-seen = length-append seen (here ∷ [])
