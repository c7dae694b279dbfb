-- Slots, each bound to an object or to an earlier variable, and the substitutions that fit them.
use Rattle.std.proofs.Common.{◌≡◌, ◌≢◌, ◌⊎◌, ℕ, zero, suc, ◌<◌, Option, Some, None, List, [], ◌∷◌, ◌++◌, length, set, get_or, slice_get, refl, ap, sym, ◌∙◌, arith, inl, inr}
use Rattle.std.proofs.lemmas.List.Elements.{All-nil, All-cons, All-head, All-tail}
use Rattle.std.proofs.lemmas.Option.{slice_get_within, slice_get-get_or}
use Rattle.px_base.specs.Answers.{some_same}
use Rattle.px_terms.specs.Language.{IsPlainBelow, substitute}
use Rattle.px_terms.specs.declared.term.Term.{Term}
use Rattle.px_terms.specs.declared.term.Term.TheVariants.{Obj, Var, Any}
use Rattle.px_unify.specs.declared.change.Change.{Change}
use Rattle.px_unify.specs.declared.change.Change.TheVariants.{Fresh, Bound}
use Rattle.px_unify.specs.Changes.{slots_after, slots_of, Fits, Meets, WellBound}

abbrev pub Slots : Type 0
Slots = List (Option Term)

abbrev pub IsTriangular : Slots → Type 0
IsTriangular slots = (v : ℕ) (term : Term) → slice_get slots v ≡ Some (Some term) → IsPlainBelow v term

-- each variable that is bound has the value of its term
abbrev pub FitsSlots : List Term → Slots → Type 0
FitsSlots sigma slots = (v : ℕ) (term : Term) → slice_get slots v ≡ Some (Some term) → substitute sigma (Var v) ≡ substitute sigma term

-- what stands in a list with one more element at its end
pub slice_get-push : {X : Type 0} (xs : List X) (x y : X) (k : ℕ) → slice_get (xs ++ x ∷ []) k ≡ Some y
    → (slice_get xs k ≡ Some y) ⊎ ((k ≡ length xs) × (x ≡ y))
slice_get-push [] x y zero at = inr (refl, cc)
slice_get-push [] x y (suc k) at = absurd (cc)
slice_get-push (z ∷ xs) x y zero at = inl at
slice_get-push (z ∷ xs) x y (suc k) at = elim (slice_get-push xs x y k at) [ inl h ↦ inl h | inr h ↦ inr (ap suc h.0, h.1) ]

pub slice_get-prefix : {X : Type 0} (xs ys : List X) (k : ℕ) → k < length xs → slice_get (xs ++ ys) k ≡ slice_get xs k
slice_get-prefix [] ys k within = absurd (omega (arith, within))
slice_get-prefix (x ∷ xs) ys zero within = refl
slice_get-prefix (x ∷ xs) ys (suc k) within = slice_get-prefix xs ys k (omega (arith, within))

pub slice_get-last : {X : Type 0} (xs : List X) (x : X) → slice_get (xs ++ x ∷ []) (length xs) ≡ Some x
slice_get-last [] x = refl
slice_get-last (y ∷ xs) x = slice_get-last xs x

-- what stands in a list after a write
pub slice_get-set : {X : Type 0} (xs : List X) (i : ℕ) (x y : X) (k : ℕ) → slice_get (set xs i x) k ≡ Some y
    → (slice_get xs k ≡ Some y) ⊎ ((k ≡ i) × (x ≡ y))
slice_get-set [] i x y k at = inl at
slice_get-set (z ∷ xs) zero x y zero at = inr (refl, cc)
slice_get-set (z ∷ xs) zero x y (suc k) at = inl at
slice_get-set (z ∷ xs) (suc i) x y zero at = inl at
slice_get-set (z ∷ xs) (suc i) x y (suc k) at = elim (slice_get-set xs i x y k at) [ inl h ↦ inl h | inr h ↦ inr (ap suc h.0, h.1) ]

slice_get-set_same : {X : Type 0} (xs : List X) (v : ℕ) (x y : X) → slice_get xs v ≡ Some y → slice_get (set xs v x) v ≡ Some x
slice_get-set_same [] v x y at = absurd (cc)
slice_get-set_same (z ∷ xs) zero x y at = refl
slice_get-set_same (z ∷ xs) (suc v) x y at = slice_get-set_same xs v x y at

slice_get-set_other : {X : Type 0} (xs : List X) (v w : ℕ) (x y : X) → w ≢ v → slice_get xs w ≡ Some y → slice_get (set xs v x) w ≡ Some y
slice_get-set_other [] v w x y other at = at
slice_get-set_other (z ∷ xs) zero zero x y other at = absurd (other refl)
slice_get-set_other (z ∷ xs) zero (suc w) x y other at = at
slice_get-set_other (z ∷ xs) (suc v) zero x y other at = at
slice_get-set_other (z ∷ xs) (suc v) (suc w) x y other at = slice_get-set_other xs v w x y (λ e. other (ap suc e)) at

triangular-push : (slots : Slots) → IsTriangular slots → IsTriangular (slots ++ None ∷ [])
triangular-push slots tri v term at =
    elim (slice_get-push slots None (Some term) v at) [ inl h ↦ tri v term h | inr h ↦ absurd (let e = h.1 in cc) ]

triangular-set : (slots : Slots) (w : ℕ) (to : Term) → IsPlainBelow w to → IsTriangular slots → IsTriangular (set slots w (Some to))
triangular-set slots w to earlier tri v term at =
    elim (slice_get-set slots w (Some to) (Some term) v at) [ inl h ↦ tri v term h | inr h ↦ rw (h.0, ← some_same h.1) earlier ]

triangular-after : (changes : List Change) (slots : Slots) → WellBound slots changes → IsTriangular slots
    → IsTriangular (slots_after slots changes)
triangular-after [] slots well tri = tri
triangular-after (Fresh ∷ changes) slots well tri = triangular-after changes (slots ++ None ∷ []) well (triangular-push slots tri)
triangular-after (Bound v term ∷ changes) slots well tri =
    triangular-after changes (set slots v (Some term)) well.2 (triangular-set slots v term well.1 tri)

pub triangular-of : (changes : List Change) → WellBound [] changes → IsTriangular (slots_of changes)
triangular-of changes well = triangular-after changes [] well (λ v term at. absurd (cc))

-- one step along a binding stays below the number of variables
pub earlier-below : (n v : ℕ) (term : Term) → IsPlainBelow v term → v < n → IsPlainBelow n term
earlier-below n v (Obj o) earlier within = tt
earlier-below n v (Var w) earlier within = omega (arith, earlier, within)
earlier-below n v Any earlier within = earlier

-- how many steps there are along bindings, at most
abbrev pub rank : Term → ℕ
rank (Obj o) = 0
rank (Var v) = suc v
rank Any = 0

pub rank-earlier : (v : ℕ) (term : Term) → IsPlainBelow v term → rank term < suc v
rank-earlier v (Obj o) earlier = omega arith
rank-earlier v (Var w) earlier = omega (arith, earlier)
rank-earlier v Any earlier = absurd earlier

pub slot_read : (slots : Slots) (v : ℕ) (slot : Option Term) (next : Term) → v < length slots → slot ≡ get_or slots v slot
    → slot ≡ Some next → slice_get slots v ≡ Some (Some next)
slot_read slots v slot next within read is = slice_get-get_or slots v slot within ∙ ap Some (sym read ∙ is)

module _ (sigma : List Term) where
  fits-push : (slots : Slots) → FitsSlots sigma slots → FitsSlots sigma (slots ++ None ∷ [])
  fits-push slots fits v term at =
      elim (slice_get-push slots None (Some term) v at) [ inl h ↦ fits v term h | inr h ↦ absurd (let e = h.1 in cc) ]

  fits-set : (slots : Slots) (w : ℕ) (to : Term) → substitute sigma (Var w) ≡ substitute sigma to → FitsSlots sigma slots
      → FitsSlots sigma (set slots w (Some to))
  fits-set slots w to same fits v term at =
      elim (slice_get-set slots w (Some to) (Some term) v at) [ inl h ↦ fits v term h | inr h ↦ rw (h.0, ← some_same h.1) same ]

  slots_from : (changes : List Change) (slots : Slots) → FitsSlots sigma slots → Fits sigma changes
      → FitsSlots sigma (slots_after slots changes)
  slots_from [] slots before fits = before
  slots_from (Fresh ∷ changes) slots before fits =
      slots_from changes (slots ++ None ∷ []) (fits-push slots before) (All-tail (Meets sigma) Fresh changes fits)
  slots_from (Bound v term ∷ changes) slots before fits =
      slots_from changes (set slots v (Some term)) (fits-set slots v term (All-head (Meets sigma) (Bound v term) changes fits) before)
      (All-tail (Meets sigma) (Bound v term) changes fits)

  -- what fits the changes fits their slots
  pub fits_slots : (changes : List Change) → Fits sigma changes → FitsSlots sigma (slots_of changes)
  fits_slots changes fits = slots_from changes [] (λ v term at. absurd (cc)) fits

  fits-before : (slots : Slots) (w : ℕ) (to : Term) → slice_get slots w ≡ Some None → FitsSlots sigma (set slots w (Some to))
      → FitsSlots sigma slots
  fits-before slots w to unbound fits v term at =
      fits v term (slice_get-set_other slots w v (Some to) (Some term) (λ same. absurd (not_here same)) at)
    where
      not_here : ¬ (v ≡ w)
      not_here same = let there = rw same at at in cc

  changes_from : (changes : List Change) (slots : Slots) → WellBound slots changes → FitsSlots sigma (slots_after slots changes)
      → FitsSlots sigma slots × Fits sigma changes
  changes_from [] slots well fits = (fits, All-nil (Meets sigma))
  changes_from (Fresh ∷ changes) slots well fits =
      let later = changes_from changes (slots ++ None ∷ []) well fits in (
        λ v term at. later.0 v term (slice_get-prefix slots (None ∷ []) v (slice_get_within slots v (Some term) at) ∙ at),
        All-cons (Meets sigma) Fresh changes tt later.1,
      )
  changes_from (Bound v term ∷ changes) slots well fits =
      let later = changes_from changes (set slots v (Some term)) well.2 fits in (
        fits-before slots v term well.0 later.0,
        All-cons (Meets sigma) (Bound v term) changes (later.0 v term (slice_get-set_same slots v (Some term) None well.0)) later.1,
      )

  -- and the other way round, where no variable is bound twice
  pub fits_changes : (changes : List Change) → WellBound [] changes → FitsSlots sigma (slots_of changes) → Fits sigma changes
  fits_changes changes well fits = (changes_from changes [] well fits).1
