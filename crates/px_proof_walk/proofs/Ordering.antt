-- The order of ticks and of lists of ticks.
use Rattle.std.proofs.Common.{◌≡◌, ◌⊎◌, Bool, true, false, Option, Some, None, List, [], ◌∷◌, ◌++◌, refl, ap, sym, ◌∙◌, inl, inr, append_assoc}
use Rattle.px_proof.specs.declared.shape.Tick.{Tick}
use Rattle.px_proof.specs.Shapes.{TickBefore, ShapeBefore}
pub use Rattle.px_question.specs.ShapeOrder.{TickBefore-irrefl, TickBefore-trans, tick_trichotomy, shape_trichotomy, ShapeBefore-irrefl, ShapeBefore-trans}
use Rattle.px_proof_walk.specs.Order.{IsAfter, Remains, IsNext, NoneAfter, IsPrefixClosed, IsAtTick, IsOnTheWay, TriesAfter}

-- before any tick at the end, all later lists remain
pub remains-start : (ticks other : List Tick) → ShapeBefore ticks other → Remains ticks None other
remains-start [] [] before = before
remains-start [] (tick ∷ more) before = tt
remains-start (t ∷ ticks) [] before = before
remains-start (t ∷ ticks) (tick ∷ more) (inl h) = inl h
remains-start (t ∷ ticks) (tick ∷ more) (inr h) = inr (h.0, remains-start ticks more h.1)

-- where none is left at the end, what remains differs by a later tick before it
pub remains-retract : (ticks : List Tick) (tick : Tick) (last : Option Tick) (other : List Tick)
    → ((u : Tick) (more : List Tick) → other ≡ (ticks ++ tick ∷ []) ++ u ∷ more → ¬ IsAfter last u)
    → Remains (ticks ++ tick ∷ []) last other → Remains ticks (Some tick) other
remains-retract [] tick last [] none remains = remains
remains-retract [] tick last (u ∷ other) none (inl h) = h
remains-retract [] tick last (u ∷ []) none (inr h) = absurd h.1
remains-retract [] tick last (u ∷ v ∷ more) none (inr h) = absurd (none v more (ap (λ w. w ∷ v ∷ more) (sym h.0)) h.1)
remains-retract (t ∷ ticks) tick last [] none remains = remains
remains-retract (t ∷ ticks) tick last (u ∷ other) none (inl h) = inl h
remains-retract (t ∷ ticks) tick last (u ∷ other) none (inr h) =
    inr (h.0, remains-retract ticks tick last other (λ v more e. none v more (rw (h.0, e) refl)) h.1)

-- nothing remains at the empty list where no tick is left
pub remains-none : (last : Option Tick) (other : List Tick) → ((u : Tick) (more : List Tick) → other ≡ u ∷ more → ¬ IsAfter last u)
    → ¬ Remains [] last other
remains-none last [] none remains = remains
remains-none last (u ∷ more) none remains = none u more refl remains

-- the least of what remains is longer by the least tick
pub remains-least : (ticks : List Tick) (tick : Tick) (last : Option Tick) (other : List Tick)
    → ((u : Tick) (more : List Tick) → other ≡ ticks ++ u ∷ more → IsAfter last u → (tick ≡ u) ⊎ TickBefore tick u)
    → Remains ticks last other → ((ticks ++ tick ∷ []) ≡ other) ⊎ ShapeBefore (ticks ++ tick ∷ []) other
remains-least [] tick last [] least remains = absurd remains
remains-least [] tick last (u ∷ []) least remains =
    elim (least u [] refl remains) [ inl e ↦ inl (ap (λ w. w ∷ []) e) | inr h ↦ inr (inl h) ]
remains-least [] tick last (u ∷ v ∷ more) least remains =
    elim (least u (v ∷ more) refl remains) [ inl e ↦ inr (inr (e, tt)) | inr h ↦ inr (inl h) ]
remains-least (t ∷ ticks) tick last [] least remains = absurd remains
remains-least (t ∷ ticks) tick last (u ∷ other) least (inl h) = inr (inl h)
remains-least (t ∷ ticks) tick last (u ∷ other) least (inr h) =
    elim (remains-least ticks tick last other (λ v more e. least v more (rw (h.0, e) refl)) h.1)
    [ inl e ↦ inl (rw (h.0, e) refl) | inr k ↦ inr (inr (h.0, k)) ]

-- a list that remains at a place that the walk has come to stands after the first one
pub before-longer : (ticks : List Tick) (tick : Tick) (more : List Tick) → ShapeBefore ticks (ticks ++ tick ∷ more)
before-longer [] tick more = tt
before-longer (t ∷ ticks) tick more = inr (refl, before-longer ticks tick more)

place-later : (start ticks : List Tick) (last : Option Tick) (u : Tick) → IsAtTick start ticks last → IsAfter last u
    → ShapeBefore start (ticks ++ u ∷ [])
place-later start ticks None u place after = rw place (before-longer ticks u [])
place-later start ticks (Some last) u place after = rw place.1 (differs ticks place.0)
  where
    differs : (ticks : List Tick) (tail : List Tick) → ShapeBefore (ticks ++ last ∷ tail) (ticks ++ u ∷ [])
    differs [] tail = inl after
    differs (t ∷ ticks) tail = inr (refl, differs ticks tail)

place-shorter : (start ticks : List Tick) (tick : Tick) (last : Option Tick) → IsAtTick start (ticks ++ tick ∷ []) last
    → IsAtTick start ticks (Some tick)
place-shorter start ticks tick None place = ([], place)
place-shorter start ticks tick (Some last) place = (last ∷ place.0, place.1 ∙ append_assoc ticks (tick ∷ []) (last ∷ place.0))

module _ (P : List Tick → Type 0) (shorter : IsPrefixClosed P) (start : List Tick) where
  pub onward-start : IsOnTheWay P start start None
  onward-start = record { place = refl; rest = λ other holds before. remains-start start other before }

  module _ (ticks : List Tick) (last : Option Tick) (way : IsOnTheWay P start ticks last) where
    -- no list goes on from here by a tick that is left, if no single tick does
    none_longer : ((u : Tick) → IsAfter last u → ¬ P (ticks ++ u ∷ [])) → (other : List Tick) → P other → (u : Tick) (more : List Tick)
        → other ≡ ticks ++ u ∷ more → ¬ IsAfter last u
    none_longer none other holds u more is after = none u after (shorter ticks u more (rw is at holds))

    pub onward-next : (tick : Tick) → P (ticks ++ tick ∷ []) → IsAfter last tick
        → ((u : Tick) → IsAfter last u → P (ticks ++ u ∷ []) → (tick ≡ u) ⊎ TickBefore tick u) → IsNext P start (ticks ++ tick ∷ [])
    onward-next tick holds after least = record {
      holds = holds;
      later = place-later start ticks last tick way.place after;
      least =
          λ other holds_other before. remains-least ticks tick last other
          (λ u more is after_u. least u after_u (shorter ticks u more (rw is at holds_other))) (way.rest other holds_other before);
    }

    pub onward-none : ticks ≡ [] → ((u : Tick) → IsAfter last u → ¬ P (ticks ++ u ∷ [])) → NoneAfter P start
    onward-none empty none other holds before =
        remains-none last other (λ u more is. none_longer none other holds u more (rw empty is)) (rw empty at (way.rest other holds before))

  pub onward-retract : (ticks longer : List Tick) (tick : Tick) (last : Option Tick) → longer ≡ ticks ++ tick ∷ []
      → IsOnTheWay P start longer last
      → ((u : Tick) → IsAfter last u → ¬ P (longer ++ u ∷ [])) → IsOnTheWay P start ticks (Some tick)
  onward-retract ticks longer tick last is way none = record {
    place = place-shorter start ticks tick last (rw is at way.place);
    rest = λ other holds before. remains-retract ticks tick last other
        (λ u more splits. none_longer longer last way none other holds u more (rw is splits))
        (rw is at (way.rest other holds before));
  }

-- one turn of the walk
module _ (P : List Tick → Type 0) (shorter : IsPrefixClosed P) (start ticks new : List Tick) (last : Option Tick) (found : Bool)
    (way : IsOnTheWay P start ticks last) (tried : TriesAfter P ticks new last found) where
  pub turn-none : found ≡ false → new ≡ [] → NoneAfter P start
  turn-none not_found empty = let none = tried.no_more not_found in onward-none P shorter start ticks last way (sym none.0 ∙ empty) none.1

  pub turn-retract : found ≡ false → (prefix : List Tick) (tick : Tick) → new ≡ prefix ++ tick ∷ [] → IsOnTheWay P start prefix (Some tick)
  turn-retract not_found prefix tick is =
      let none = tried.no_more not_found in onward-retract P shorter start prefix ticks tick last (sym none.0 ∙ is) way none.1

  pub turn-next : found ≡ true → IsNext P start new
  turn-next is_found =
      let next = tried.least is_found in
      rw next.1 (onward-next P shorter start ticks last way next.0 (rw next.1 at next.3) next.2 next.4)
