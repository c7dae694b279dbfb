-- Small laws of lists and the places of their items.
use Rattle.std.proofs.Common.{◌≡◌, ℕ, zero, suc, ◌<◌, ◌≤◌, ◌⊎◌, List, [], ◌∷◌, ◌++◌, length, refl, sym, ◌∙◌, ap, inl, inr, arith, Some, slice_get, slice_index_or, Contains}

pub order_of : (a b : ℕ) → (a < b) ⊎ (b ≤ a)
order_of a b = grind arith

pub place_of : {A : Type 0} (xs : List A) (x : A) → Contains xs x → (i : ℕ) × (slice_get xs i ≡ Some x)
place_of [] x h = absurd (omega (arith, h.1))
place_of (y ∷ xs) x (zero, h, e) = (0, ap Some e)
place_of (y ∷ xs) x (suc k, h, e) = let r = place_of xs x (k, omega arith, e) in (suc r.0, r.1)

pub contains_place : {A : Type 0} (xs : List A) (k : ℕ) (x : A) → slice_get xs k ≡ Some x → Contains xs x
contains_place [] k x e = absurd (cc)
contains_place (y ∷ xs) zero x e = (0, omega arith, cc)
contains_place (y ∷ xs) (suc k) x e = let r = contains_place xs k x e in (suc r.0, omega (arith, r.1), r.2)

pub push-cases : {X : Type 0} (xs : List X) (y x : X) (k : ℕ) → slice_get (xs ++ y ∷ []) k ≡ Some x → (slice_get xs k ≡ Some x)
    ⊎ ((k ≡ length xs) × (y ≡ x))
push-cases [] y x zero e = inr (refl, cc)
push-cases [] y x (suc k) e = absurd (cc)
push-cases (z ∷ xs) y x zero e = inl e
push-cases (z ∷ xs) y x (suc k) e = elim (push-cases xs y x k e) [ inl h ↦ inl h | inr h ↦ inr (ap suc h.0, h.1) ]

pub still_there : {A : Type 0} (xs ys : List A) (k : ℕ) (x : A) → slice_get xs k ≡ Some x → slice_get (xs ++ ys) k ≡ Some x
still_there [] ys k x e = absurd (cc)
still_there (y ∷ xs) ys zero x e = e
still_there (y ∷ xs) ys (suc k) x e = still_there xs ys k x e

pub place-within-list : {A : Type 0} (xs : List A) (k : ℕ) (x : A) → slice_get xs k ≡ Some x → k < length xs
place-within-list [] k x e = absurd (cc)
place-within-list (y ∷ xs) zero x e = omega arith
place-within-list (y ∷ xs) (suc k) x e = let r = place-within-list xs k x e in omega arith

pub at_index : {A : Type 0} (xs : List A) (k : ℕ) (d : A) → k < length xs → slice_get xs k ≡ Some (slice_index_or xs k d)
at_index [] k d h = absurd (omega arith)
at_index (y ∷ xs) zero d h = refl
at_index (y ∷ xs) (suc k) d h = at_index xs k d (omega arith)

pub some-one : {A : Type 0} (x y : A) → Some x ≡ Some y → x ≡ y
some-one x y e = cc

pub tail-of : (a b : ℕ) (xs ys : List ℕ) → a ∷ xs ≡ b ∷ ys → xs ≡ ys
tail-of a b xs ys e = cc

pub head-of : (a b : ℕ) (xs ys : List ℕ) → a ∷ xs ≡ b ∷ ys → a ≡ b
head-of a b xs ys e = cc

pub at_end : {A : Type 0} (xs : List A) (x : A) → slice_get (xs ++ x ∷ []) (length xs) ≡ Some x
at_end [] x = refl
at_end (y ∷ xs) x = at_end xs x

pub length-end : {A : Type 0} (xs : List A) (x : A) → length (xs ++ x ∷ []) ≡ suc (length xs)
length-end [] x = refl
length-end (y ∷ xs) x = ap suc (length-end xs x)

pub get-prefix : {A : Type 0} (xs ys : List A) (k : ℕ) (x : A) → k < length xs → slice_get (xs ++ ys) k ≡ Some x → slice_get xs k ≡ Some x
get-prefix xs ys k x below at = let here = at_index xs k x below in here ∙ sym (still_there xs ys k _ here) ∙ at

pub joined : {A : Type 0} (xs ys zs : List A) → (xs ++ ys) ++ zs ≡ xs ++ (ys ++ zs)
joined [] ys zs = refl
joined {A = A} (x ∷ xs) ys zs = ap (λ (l : List A). x ∷ l) (joined xs ys zs)

pub none-behind : {A : Type 0} (xs : List A) → xs ≡ xs ++ []
none-behind [] = refl
none-behind {A = A} (x ∷ xs) = ap (λ (l : List A). x ∷ l) (none-behind xs)
