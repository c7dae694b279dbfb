-- What keeping one more thing does to the numbers of the others.
use Rattle.std.specs.Prelude.{◌≡◌, ◌⊎◌, ◌<◌, ℕ, Bool, true, false, List, [], ◌∷◌, ◌++◌, Some, length, slice_get, Contains, Result, Ok, Err, OnOk, IfOk}
use Rattle.std.proofs.Common.{zero, suc, refl, sym, ap, ◌∙◌, subst, inl, inr, arith, if◌then◌else◌}
use Rattle.std.specs.Bool.{Decides}
use Rattle.std.specs.List.{list_any}
use Rattle.std.proofs.lemmas.Map.Views.{list_any-from_Contains, Contains-from_any}
use Rattle.indexmap.specs.IndexSet.{insert_key}
use Rattle.px_base.specs.Answers.{both_answers}
use Rattle.px_terms.specs.OrderLaws.{decides_equiv}
use Rattle.px_ops.specs.Keeping.{AreOnce, Keeps, KeepsPlaces}

pub place_within : {X : Type 0} (xs : List X) (k : ℕ) (x : X) → slice_get xs k ≡ Some x → k < length xs
place_within [] k x e = absurd (cc)
place_within (y ∷ xs) zero x e = omega arith
place_within (y ∷ xs) (suc k) x e = let r = place_within xs k x e in omega (arith, r)

pub has_at : {X : Type 0} (xs : List X) (k : ℕ) (x : X) → slice_get xs k ≡ Some x → Contains xs x
has_at [] k x e = absurd (cc)
has_at (y ∷ xs) zero x e = (0, omega arith, cc)
has_at (y ∷ xs) (suc k) x e = let r = has_at xs k x e in (suc r.0, omega (arith, r.1), r.2)

pub at_has : {X : Type 0} (xs : List X) (x : X) → Contains xs x → (k : ℕ) × (slice_get xs k ≡ Some x)
at_has [] x h = absurd (omega (arith, h.1))
at_has (y ∷ xs) x (zero, h, e) = (0, ap Some e)
at_has (y ∷ xs) x (suc k, h, e) = let r = at_has xs x (k, omega (arith, h), e) in (suc r.0, r.1)

pub push-keeps : {X : Type 0} (xs : List X) (y : X) → KeepsPlaces xs (xs ++ y ∷ [])
push-keeps [] y k x e = absurd (cc)
push-keeps (z ∷ xs) y zero x e = e
push-keeps (z ∷ xs) y (suc k) x e = push-keeps xs y k x e

pub push-cases : {X : Type 0} (xs : List X) (y x : X) (k : ℕ) → slice_get (xs ++ y ∷ []) k ≡ Some x → (slice_get xs k ≡ Some x)
    ⊎ ((k ≡ length xs) × (y ≡ x))
push-cases [] y x zero e = inr (refl, cc)
push-cases [] y x (suc k) e = absurd (cc)
push-cases (z ∷ xs) y x zero e = inl e
push-cases (z ∷ xs) y x (suc k) e = elim (push-cases xs y x k e) [ inl h ↦ inl h | inr h ↦ inr (ap suc h.0, h.1) ]

-- what was kept before still has its number
pub keeps-places : {X : Type 0} (old new : List X) (item : X) (number : ℕ) → Keeps old new item number → KeepsPlaces old new
keeps-places {X} old new item number kept = elim kept.change [
  | inl same ↦ subst (KeepsPlaces old) (sym same.1) (λ k x e. e)
  | inr more ↦ subst (KeepsPlaces old) (sym more.1) (push-keeps old item)
]

pub push-once : {X : Type 0} (xs : List X) (y : X) → AreOnce xs → (¬ Contains xs y) → AreOnce (xs ++ y ∷ [])
push-once xs y once fresh i j x at_i at_j = elim (push-cases xs y x i at_i) [
  | inl old_i ↦ elim (push-cases xs y x j at_j) [
    | inl old_j ↦ once i j x old_i old_j
    | inr new_j ↦ absurd (fresh (has_at xs i y (old_i ∙ ap Some (sym new_j.1))))
  ]
  | inr new_i ↦ elim (push-cases xs y x j at_j) [
    | inl old_j ↦ absurd (fresh (has_at xs j y (old_j ∙ ap Some (sym new_i.1))))
    | inr new_j ↦ new_i.0 ∙ sym new_j.0
  ]
]

-- each thing is still kept once
pub keeps-once : {X : Type 0} (old new : List X) (item : X) (number : ℕ) → Keeps old new item number → AreOnce old → AreOnce new
keeps-once old new item number kept once = elim kept.change [
  | inl same ↦ subst AreOnce (sym same.1) once
  | inr more ↦ subst AreOnce (sym more.1) (push-once old item once more.0)
]

-- what inserting into a set does, where `==` is equality
module _ {K : Type 0} (eq : K → K → Bool) (decides : (x y : K) → Decides (eq x y) (x ≡ y)) where
  inserts : (old new : List K) (item : K) (number : ℕ) → new ≡ insert_key eq old item
      → ((k : K) × (slice_get new number ≡ Some k) × (eq item k ≡ true)) → Keeps old new item number
  inserts old new item number put stored = record {
    here = stored.1 ∙ ap Some (sym ((decides item stored.0).0 stored.2));
    change = elim (list_any (eq item) old) as (λ t. list_any (eq item) old ≡ t → new ≡ (if t then old else old ++ item ∷ [])
        → (Contains old item × (new ≡ old)) ⊎ ((¬ Contains old item) × (new ≡ old ++ item ∷ []))) [
          | true ↦ λ is p. inl (Contains-from_any (λ x y. (decides x y).0) item old is, p)
          | false ↦ λ is p. inr (
            λ has. both_answers (list_any (eq item) old) is
                (list_any-from_Contains (decides_equiv eq decides) item old has),
            p,
          )
        ] refl put;
  }

  pub keeps : {E : Type 0} (old new : List K) (item : K) (result : Result ℕ E) → OnOk result (new ≡ insert_key eq old item)
      → IfOk result (λ number. (k : K) × (slice_get new number ≡ Some k) × (eq item k ≡ true)) → IfOk result (Keeps old new item)
  keeps old new item (Ok number) put stored = inserts old new item number put stored
  keeps old new item (Err e) put stored = tt

  -- what is kept is found
  pub there : (old : List K) (item : K) → Contains old item → list_any (eq item) old ≡ true
  there old item has = list_any-from_Contains (decides_equiv eq decides) item old has
