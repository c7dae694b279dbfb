-- Places in a list of steps, and items of a mapped list.
use Rattle.std.specs.Prelude.{◌≡◌, ◌≤◌, ◌<◌, ◌+◌, ℕ, Some, List, [], ◌∷◌, ◌++◌, length, map, slice_get, slice_index, All, Contains}
use Rattle.std.proofs.Common.{zero, suc, refl, ap, subst, inl, inr, arith}
use Rattle.std.specs.List.{AllZip}
use Rattle.std.proofs.lemmas.List.Elements.{All-cons, All-nil}
use Rattle.px_base.specs.ListLaws.{Contains-cases, Contains-first, Contains-later, Contains-none}
use Rattle.px_terms.specs.declared.instance.OpInst.{OpInst}
use Rattle.px_table.specs.Marks.{step_at}

pub get-prefix : {A : Type 0} (xs ys : List A) (k : ℕ) → k < length xs → slice_get (xs ++ ys) k ≡ slice_get xs k
get-prefix [] ys k below = absurd (omega (arith, below))
get-prefix (x ∷ xs) ys zero below = refl
get-prefix (x ∷ xs) ys (suc k) below = get-prefix xs ys k (omega (arith, below))

-- the first steps are at their places in more steps
pub step-prefix : (xs ys : List OpInst) (k : ℕ) → k ≤ length xs → step_at (xs ++ ys) k ≡ step_at xs k
step-prefix xs ys zero below = refl
step-prefix xs ys (suc k) below = get-prefix xs ys k (omega (arith, below))

get-within : {A : Type 0} (xs : List A) (k : ℕ) (x : A) → slice_get xs k ≡ Some x → k < length xs
get-within [] k x at = absurd (cc)
get-within (y ∷ xs) zero x at = omega arith
get-within (y ∷ xs) (suc k) x at = let r = get-within xs k x at in omega (arith, r)

-- a step's number is at most the number of steps
pub step-within : (xs : List OpInst) (k : ℕ) (inst : OpInst) → step_at xs k ≡ Some inst → k ≤ length xs
step-within xs zero inst at = absurd (cc)
step-within xs (suc k) inst at = let r = get-within xs k inst at in omega (arith, r)

-- the steps behind others have higher numbers
pub step-behind : (xs ys : List OpInst) (j k : ℕ) → 0 < j → k ≡ j + length xs → step_at (xs ++ ys) k ≡ step_at ys j
step-behind [] ys j k some is = let same : k ≡ j = omega (arith, is) in ap (step_at ys) same
step-behind (x ∷ xs) ys j zero some is = absurd (omega (arith, some, is))
step-behind (x ∷ xs) ys j (suc zero) some is = absurd (omega (arith, some, is))
step-behind (x ∷ xs) ys j (suc (suc k)) some is = step-behind xs ys j (suc k) some (omega (arith, is))

pub step-found : (xs ys : List OpInst) (k : ℕ) (inst : OpInst) → length xs < k → step_at (xs ++ ys) k ≡ Some inst
    → (j : ℕ) × (k ≡ j + length xs) × (step_at ys j ≡ Some inst)
step-found [] ys k inst after at = (k, omega arith, at)
step-found (x ∷ xs) ys zero inst after at = absurd (omega (arith, after))
step-found (x ∷ xs) ys (suc zero) inst after at = absurd (omega (arith, after))
step-found (x ∷ xs) ys (suc (suc k)) inst after at =
    let r = step-found xs ys (suc k) inst (omega (arith, after)) at in (r.0, omega (arith, r.1), r.2)

-- what is said of each item under a function is said of the items of the mapped list
pub each-mapped : {A B : Type 0} (P : B → Type 0) (f : A → B) (xs : List A) → ((x : A) → Contains xs x → P (f x)) → (y : B)
    → Contains (map f xs) y → P y
each-mapped P f [] each y has = absurd (Contains-none y has)
each-mapped P f (x ∷ xs) each y has = elim (Contains-cases (f x) (map f xs) y has) [
  | inl is ↦ subst P is (each x (Contains-first x xs))
  | inr later ↦ each-mapped P f xs (λ z inside. each z (Contains-later x xs z inside)) y later
]

-- what is said of the number at each place is said of all numbers
pub each-number : (P : ℕ → Type 0) (xs : List ℕ) → ((v : ℕ) → v < length xs → P (slice_index xs v)) → All P xs
each-number P [] each = All-nil P
each-number P (x ∷ xs) each = All-cons P x xs (each 0 (omega arith)) (each-number P xs (λ v below. each (suc v) (omega (arith, below))))

-- one pair more
pub zip-grown : {A B : Type 0} (R : A → B → Type 0) (xs more : List A) (ys grown : List B) (x : A) (y : B) → more ≡ xs ++ x ∷ []
    → grown ≡ ys ++ y ∷ [] → AllZip R xs ys → R x y → AllZip R more grown
zip-grown R xs more ys grown x y more_is grown_is all is =
    rw (more_is, grown_is) (zip-push R xs ys x y all is)
  where
    zip-push : {A B : Type 0} (R : A → B → Type 0) (xs : List A) (ys : List B) (x : A) (y : B) → AllZip R xs ys → R x y
        → AllZip R (xs ++ x ∷ []) (ys ++ y ∷ [])
    zip-push R [] [] x y all is = (is, tt)
    zip-push R [] (z ∷ ys) x y all is = absurd all
    zip-push R (w ∷ xs) [] x y all is = absurd all
    zip-push R (w ∷ xs) (z ∷ ys) x y all is = (all.0, zip-push R xs ys x y all.1 is)
