-- Reading a list at a place: through a map, past its head, and with an element left out; and what is in parts of a list.
use Rattle.std.specs.Prelude.{◌≡◌, ◌⊎◌, ℕ, ◌<◌, ◌≤◌, List, [], ◌∷◌, ◌++◌, length, map, remove, slice_get, All, Contains}
use Rattle.std.proofs.Common.{◌≢◌, ◌-◌, zero, suc, Some, get_or, refl, ap, subst, inl, inr, arith}
use Rattle.std.proofs.lemmas.List.Elements.{Contains-append_left, Contains-append_right}
use Rattle.px_base.specs.Answers.{some_same}
use Rattle.px_base.specs.ListLaws.{All-at, All-each, Contains-none, Contains-first, Contains-later, Contains-cases}

pub slice_get-rest : {X : Type 0} (x : X) (xs : List X) (k : ℕ) → k ≢ 0 → slice_get (x ∷ xs) k ≡ slice_get xs (k - 1)
slice_get-rest x xs zero ne = absurd (ne refl)
slice_get-rest x xs (suc k) ne = rw sub_suc refl
  where
    sub_suc : suc k - 1 ≡ k
    sub_suc = omega arith

pub slice_get-map : {X Y : Type 0} (f : X → Y) (xs : List X) (k : ℕ) (x : X) → slice_get xs k ≡ Some x → slice_get (map f xs) k ≡ Some (f x)
slice_get-map f [] k x at = absurd (cc)
slice_get-map f (y ∷ ys) zero x at =
    let same : y ≡ x = cc in
    ap (λ z. Some (f z)) same
slice_get-map f (y ∷ ys) (suc k) x at = slice_get-map f ys k x at

pub slice_get-read : {X : Type 0} (xs : List X) (k : ℕ) (d : X) → k < length xs → slice_get xs k ≡ Some (get_or xs k d)
slice_get-read [] k d within = absurd (omega (arith, within))
slice_get-read (x ∷ xs) zero d within = refl
slice_get-read (x ∷ xs) (suc k) d within = slice_get-read xs k d (omega (arith, within))

pub slice_get-remove_below : {X : Type 0} (xs : List X) (i k : ℕ) → k < i → slice_get (remove xs i) k ≡ slice_get xs k
slice_get-remove_below xs zero k below = absurd (omega (arith, below))
slice_get-remove_below [] (suc i) k below = refl
slice_get-remove_below (x ∷ xs) (suc i) zero below = refl
slice_get-remove_below (x ∷ xs) (suc i) (suc k) below = slice_get-remove_below xs i k (omega (arith, below))

pub slice_get-remove_above : {X : Type 0} (xs : List X) (i k : ℕ) → i ≤ k → slice_get (remove xs i) k ≡ slice_get xs (suc k)
slice_get-remove_above [] zero k above = refl
slice_get-remove_above (x ∷ xs) zero k above = refl
slice_get-remove_above [] (suc i) k above = refl
slice_get-remove_above (x ∷ xs) (suc i) zero above = absurd (omega (arith, above))
slice_get-remove_above (x ∷ xs) (suc i) (suc k) above = slice_get-remove_above xs i k (omega (arith, above))

pub length-remove : {X : Type 0} (xs : List X) (i : ℕ) → i < length xs → suc (length (remove xs i)) ≡ length xs
length-remove [] i within = absurd (omega (arith, within))
length-remove (x ∷ xs) zero within = refl
length-remove (x ∷ xs) (suc i) within = ap suc (length-remove xs i (omega (arith, within)))

pub slice_get-within : {X : Type 0} (xs : List X) (k : ℕ) (x : X) → slice_get xs k ≡ Some x → k < length xs
slice_get-within [] k x at = absurd (cc)
slice_get-within (y ∷ ys) zero x at = omega arith
slice_get-within (y ∷ ys) (suc k) x at = omega (arith, slice_get-within ys k x at)

pub All-got : {X : Type 0} (P : X → Type 0) (xs : List X) (k : ℕ) (x : X) → All P xs → slice_get xs k ≡ Some x → P x
All-got P [] k x all at = absurd (cc)
All-got P (y ∷ ys) zero x all at = subst P (some_same at) (all 0 y (omega arith))
All-got P (y ∷ ys) (suc k) x all at = All-got P ys k x (λ j d below. all (suc j) d (omega (arith, below))) at

-- an element stands at the place, or is among the others
pub other_part : {X : Type 0} (xs : List X) (place k : ℕ) (x : X) → slice_get xs k ≡ Some x → (k ≡ place)
    ⊎ ((j : ℕ) × (slice_get (remove xs place) j ≡ Some x))
other_part [] place k x at = absurd (cc)
other_part (y ∷ ys) zero zero x at = inl refl
other_part (y ∷ ys) zero (suc k) x at = inr (k, at)
other_part (y ∷ ys) (suc place) zero x at = inr (0, at)
other_part (y ∷ ys) (suc place) (suc k) x at = elim (other_part ys place k x at) [ inl e ↦ inl (ap suc e) | inr h ↦ inr (suc h.0, h.1) ]

pub map-remove : {X Y : Type 0} (f : X → Y) (xs : List X) (i : ℕ) → map f (remove xs i) ≡ remove (map f xs) i
map-remove f [] zero = refl
map-remove f [] (suc i) = refl
map-remove f (x ∷ xs) zero = refl
map-remove f (x ∷ xs) (suc i) = ap (λ ys. f x ∷ ys) (map-remove f xs i)

pub Contains-mapped : {X Y : Type 0} (f : X → Y) (xs : List X) (q : X) → Contains xs q → Contains (map f xs) (f q)
Contains-mapped f [] q has = absurd (Contains-none q has)
Contains-mapped f (x ∷ xs) q has = elim (Contains-cases x xs q has) [
  | inl is ↦ subst (λ z. Contains (f x ∷ map f xs) (f z)) is (Contains-first (f x) (map f xs))
  | inr later ↦ Contains-later (f x) (map f xs) (f q) (Contains-mapped f xs q later)
]

module _ {X : Type 0} (P : X → Type 0) (xs ys : List X) (all : All P (xs ++ ys)) where
  pub All-prefix : All P xs
  All-prefix = All-each P xs (λ x has. All-at P (xs ++ ys) x all (Contains-append_left xs ys x has))

  pub All-back : All P ys
  All-back = All-each P ys (λ y has. All-at P (xs ++ ys) y all (Contains-append_right xs ys y has))
