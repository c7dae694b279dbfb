-- The numbers that the kept steps get.
use Rattle.std.specs.Prelude.{◌≡◌, ◌⊎◌, ◌<◌, ◌≤◌, ◌+◌, ℕ, true, false, Bool, cond, nat_le, Some, List, [], ◌∷◌, length, count_by, sum_by, slice_get, slice_index_or, All, AllPairs, Contains}
use Rattle.std.specs.List.Sorted.{IsStrictlyIncreasing}
use Rattle.std.proofs.Common.{zero, suc, refl, sym, ap, ◌∙◌, subst, inl, inr, arith}
use Rattle.std.proofs.lemmas.Bool.Decides.{nat_tests}
use Rattle.std.proofs.lemmas.List.Kept.{AllPairs-from_increasing}
use Rattle.std.proofs.lemmas.List.Sums.{sum_by-cons}
use Rattle.px_base.specs.Answers.{some_same}
use Rattle.px_proof.specs.PlaceLaws.{slice_get-within, All-got}
use Rattle.px_edit.specs.Editing.{new_number}
use Rattle.px_edit.proofs.Lists.{place_of, read-at}

le-true : (a b : ℕ) → a ≤ b → nat_le a b ≡ true
le-true a b low = grind (arith, nat_tests)

le-false : (a b : ℕ) → b < a → nat_le a b ≡ false
le-false a b high = grind (arith, nat_tests)

number-more : (x : ℕ) (xs : List ℕ) (k : ℕ) → new_number (x ∷ xs) k ≡ cond (nat_le x k) 1 0 + new_number xs k
number-more x xs k = sum_by-cons (λ j. cond (nat_le j k) 1 0) x xs

number-yes : (x : ℕ) (xs : List ℕ) (k : ℕ) → x ≤ k → new_number (x ∷ xs) k ≡ suc (new_number xs k)
number-yes x xs k low =
    let one : 1 + new_number xs k ≡ suc (new_number xs k) = omega arith in
    number-more x xs k ∙ ap (λ b. cond b 1 0 + new_number xs k) (le-true x k low) ∙ one

number-no : (x : ℕ) (xs : List ℕ) (k : ℕ) → k < x → new_number (x ∷ xs) k ≡ new_number xs k
number-no x xs k high =
    let none : 0 + new_number xs k ≡ new_number xs k = omega arith in
    number-more x xs k ∙ ap (λ b. cond b 1 0 + new_number xs k) (le-false x k high) ∙ none

-- below all of them it is 0
pub number-below : (xs : List ℕ) (k : ℕ) → All (λ j. k < j) xs → new_number xs k ≡ 0
number-below [] k all = refl
number-below (x ∷ xs) k all =
    number-no x xs k (all 0 x (omega arith)) ∙ number-below xs k (λ i d below. all (suc i) d (omega (arith, below)))

-- a later number isn't less
pub number-rises : (xs : List ℕ) (a b : ℕ) → a ≤ b → new_number xs a ≤ new_number xs b
number-rises [] a b low = omega arith
number-rises (x ∷ xs) a b low = elim (within-or-not x a) [
  | inl inside ↦ omega (arith, number-rises xs a b low, number-yes x xs a inside, number-yes x xs b (omega (arith, inside, low)))
  | inr past ↦ omega (arith, number-rises xs a b low, number-no x xs a past, number-more x xs b)
]
  where
    within-or-not : (x a : ℕ) → (x ≤ a) ⊎ (a < x)
    within-or-not x a = grind arith

pairs-rest : (x : ℕ) (xs : List ℕ) → AllPairs (λ a b. a < b) (x ∷ xs) → AllPairs (λ a b. a < b) xs
pairs-rest x xs all = λ i j d lt within. all (suc i) (suc j) d (omega (arith, lt)) (omega (arith, within))

pairs-first : (x : ℕ) (xs : List ℕ) → AllPairs (λ a b. a < b) (x ∷ xs) → All (λ b. x < b) xs
pairs-first x xs all = λ k d below. all 0 (suc k) d (omega arith) (omega (arith, below))

number-place : (xs : List ℕ) → AllPairs (λ a b. a < b) xs → (i k : ℕ) → slice_get xs i ≡ Some k → new_number xs k ≡ suc i
number-place [] all i k at = absurd (cc)
number-place (x ∷ xs) all zero k at =
    let is : x ≡ k = some_same at in
    number-yes x xs k (omega (arith, is))
    ∙ ap suc (number-below xs k (subst (λ n. All (λ j. n < j) xs) is (pairs-first x xs all)))
number-place (x ∷ xs) all (suc i) k at =
    let low : x < k = All-got (λ j. x < j) xs i k (pairs-first x xs all) at in
    number-yes x xs k (omega (arith, low)) ∙ ap suc (number-place xs (pairs-rest x xs all) i k at)

-- the number of the step at a place is one more than the place
pub number-at : (kept : List ℕ) → IsStrictlyIncreasing kept → (i k : ℕ) → slice_get kept i ≡ Some k → new_number kept k ≡ suc i
number-at kept rising = number-place kept (AllPairs-from_increasing kept rising)

-- of two of them the one before stands before
pub place-before : (kept : List ℕ) → IsStrictlyIncreasing kept → (i j a b : ℕ) → slice_get kept i ≡ Some a → slice_get kept j ≡ Some b → a < b
    → i < j
place-before kept rising i j a b at there low = by-order (order i j)
  where
    order : (i j : ℕ) → (i < j) ⊎ ((j < i) ⊎ (i ≡ j))
    order i j = grind arith

    by-order : (i < j) ⊎ ((j < i) ⊎ (i ≡ j)) → i < j
    by-order (inl before) = before
    by-order (inr (inl after)) =
        let wrong = AllPairs-from_increasing kept rising j i 0 after (slice_get-within kept i a at) in
        absurd (omega (arith, low, wrong, read-at kept i a 0 at, read-at kept j b 0 there))
    by-order (inr (inr same)) =
        let one : a ≡ b = some_same (sym at ∙ ap (slice_get kept) same ∙ there) in absurd (omega (arith, low, one))

-- a column is that of the initial model, and stays 0, or that of a kept step
pub record IsKeptColumn (kept : List ℕ) (c : ℕ) : Type 0 where
  pub place : ℕ
  pub at : slice_get kept place ≡ Some c
  pub number : new_number kept c ≡ suc place

pub column-cases : (kept : List ℕ) → IsStrictlyIncreasing kept → All (λ k. 1 ≤ k) kept → (c : ℕ) → (c ≡ 0) ⊎ Contains kept c
    → ((c ≡ 0) × (new_number kept c ≡ 0)) ⊎ IsKeptColumn kept c
column-cases kept rising least c (inl is) =
    inl (is, ap (new_number kept) is ∙ number-below kept 0 (λ k d below. omega (arith, least k d below)))
column-cases kept rising least c (inr has) =
    let found = place_of kept c has in
    inr (record { place = found.0; at = found.1; number = number-at kept rising found.0 c found.1 })

-- so many numbers between 1 and a limit are at most as many
numbers-few : (low high : ℕ) (xs : List ℕ) → AllPairs (λ a b. a < b) xs → All (λ k. (low < k) × (k ≤ high)) xs → low ≤ high
    → length xs + low ≤ high
numbers-few low high [] all within room = omega (arith, room)
numbers-few low high (x ∷ xs) all within room =
    let here = within 0 x (omega arith) in
    let first = pairs-first x xs all in
    let rest =
    numbers-few x high xs (pairs-rest x xs all)
    (λ k d below. (first k d below, (within (suc k) d (omega (arith, below))).1)) here.1 in
    omega (arith, rest, here.0)

pub kept-few : (kept : List ℕ) (high : ℕ) → IsStrictlyIncreasing kept → All (λ k. (1 ≤ k) × (k ≤ high)) kept → length kept ≤ high
kept-few kept high rising within =
    let few =
    numbers-few 0 high kept (AllPairs-from_increasing kept rising)
    (λ k d below. let w = within k d below in (omega (arith, w.0), w.1)) (omega arith) in
    omega (arith, few)
