-- The first of the lists of numbers that are so, if one is so.
use Rattle.std.specs.Prelude.{◌≡◌, ◌≢◌, ◌⊎◌, ◌<◌, ◌≤◌, ◌+◌, ℕ, List, [], ◌∷◌, length, All}
use Rattle.std.proofs.Common.{zero, suc, refl, sym, subst, inl, inr, arith}
use Rattle.std.specs.Cmp.Lexicographic.{slice_cmp}
use Rattle.std.specs.Ordering.{nat_cmp, ordering_then}
use Rattle.std.specs.declared.cmp.Ordering.{Ordering}
use Rattle.std.specs.declared.cmp.Ordering.TheVariants.{Less, Equal, Greater}
use Rattle.std.proofs.lemmas.Bool.{cases_order}
use Rattle.std.proofs.lemmas.Bool.Decides.{nat_tests}
use Rattle.std.proofs.lemmas.List.Elements.{All-head, All-tail}
use Rattle.px_match.proofs.Sides.{same_number}
use Rattle.px_planex.proofs.Decided.{Decided}

nat_cmp-more : (m n : ℕ) → n < m → nat_cmp m n ≡ Greater
nat_cmp-more m n more = grind (arith, nat_tests)

then-same : (one other : Ordering) → one ≡ Equal → other ≢ Less → ordering_then one other ≢ Less
then-same one other same not_less = subst (λ (o : Ordering). ordering_then o other ≢ Less) (sym same) not_less

then-more : (one other : Ordering) → one ≡ Greater → ordering_then one other ≢ Less
then-more one other more = subst (λ (o : Ordering). ordering_then o other ≢ Less) (sym more) (λ e. cc)

nil-not_less : (xs : List ℕ) → length xs ≡ 0 → slice_cmp nat_cmp xs [] ≢ Less
nil-not_less [] none e = cc
nil-not_less (x ∷ xs) none e = absurd (omega (arith, none))

nil-of : (xs : List ℕ) → length xs ≡ 0 → xs ≡ []
nil-of [] none = refl
nil-of (x ∷ xs) none = absurd (omega (arith, none))

-- the list is so, and none that is so is before it
abbrev pub IsFirstOf : (List ℕ → Type 0) → List ℕ → Type 0
IsFirstOf P xs = P xs × ((ys : List ℕ) → P ys → slice_cmp nat_cmp ys xs ≢ Less)

abbrev pub FirstOrNone : (List ℕ → Type 0) → Type 0
FirstOrNone P = ((xs : List ℕ) × IsFirstOf P xs) ⊎ ((xs : List ℕ) → ¬ P xs)

-- `len` numbers, all below the top
abbrev pub IsWithin : ℕ → ℕ → List ℕ → Type 0
IsWithin top len xs = (length xs ≡ len) × All (λ n. n < top) xs

module _ (top : ℕ) where
  -- where a first number is passed over, a later one is
  first-from : (len : ℕ) (P : List ℕ → Type 0) → ((xs : List ℕ) → P xs → IsWithin top (suc len) xs) → ((x : ℕ)
      → FirstOrNone (λ xs. P (x ∷ xs)))
      → (rest from : ℕ) → from + rest ≡ top → ((x : ℕ) (xs : List ℕ) → P (x ∷ xs) → from ≤ x) → FirstOrNone P
  first-from len P within inner zero from end least = inr none
    where
      none : (xs : List ℕ) → ¬ P xs
      none [] is = absurd (omega (arith, (within [] is).0))
      none (x ∷ xs) is = absurd (omega (arith, end, least x xs is, All-head (λ n. n < top) x xs (within (x ∷ xs) is).1))
  first-from len P within inner (suc rest) from end least = by (inner from) (first-from len P within inner rest (suc from) (omega
      (arith, end)))
    where
      not_before : (xs : List ℕ) → IsFirstOf (λ l. P (from ∷ l)) xs → (ys : List ℕ) → P ys → slice_cmp nat_cmp ys (from ∷ xs) ≢ Less
      not_before xs first [] is = absurd (omega (arith, (within [] is).0))
      not_before xs first (y ∷ ys) is = elim (cases_order y from) [
        | inl same ↦ then-same (nat_cmp y from) (slice_cmp nat_cmp ys xs) (same_number y from same) (first.1 ys (subst (λ n. P
            (n ∷ ys)) same is))
        | inr (inl less) ↦ absurd (omega (arith, less, least y ys is))
        | inr (inr more) ↦ then-more (nat_cmp y from) (slice_cmp nat_cmp ys xs) (nat_cmp-more y from more)
      ]

      later : ((xs : List ℕ) → ¬ P (from ∷ xs)) → (x : ℕ) (xs : List ℕ) → P (x ∷ xs) → suc from ≤ x
      later none x xs is = elim (cases_order x from) [
        | inl same ↦ absurd (none xs (subst (λ n. P (n ∷ xs)) same is))
        | inr (inl less) ↦ absurd (omega (arith, less, least x xs is))
        | inr (inr more) ↦ omega (arith, more)
      ]

      by : FirstOrNone (λ xs. P (from ∷ xs)) → (((x : ℕ) (xs : List ℕ) → P (x ∷ xs) → suc from ≤ x) → FirstOrNone P) → FirstOrNone P
      by (inl (xs, first)) next = inl (from ∷ xs, (first.0, not_before xs first))
      by (inr none) next = next (later none)

  pub first-list : (len : ℕ) (P : List ℕ → Type 0) → ((xs : List ℕ) → Decided (P xs)) → ((xs : List ℕ) → P xs → IsWithin top len xs)
      → FirstOrNone P
  first-list zero P decided within = by (decided [])
    where
      by : Decided (P []) → FirstOrNone P
      by (inl is) = inl ([], (is, λ ys so. nil-not_less ys (within ys so).0))
      by (inr never) = inr (λ xs so. never (subst P (nil-of xs (within xs so).0) so))
  first-list (suc len) P decided within =
      first-from len P within
      (λ x. first-list len (λ xs. P (x ∷ xs)) (λ xs. decided (x ∷ xs)) (λ xs is. tail-within x xs len (within (x ∷ xs) is)))
      top 0 (omega arith) (λ x xs is. omega arith)
    where
      tail-within : (x : ℕ) (xs : List ℕ) (len : ℕ) → IsWithin top (suc len) (x ∷ xs) → IsWithin top len xs
      tail-within x xs len is = (omega (arith, is.0), All-tail (λ n. n < top) x xs is.1)
