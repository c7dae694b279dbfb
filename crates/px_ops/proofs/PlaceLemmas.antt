-- An ascending list around the place of an item.
use Rattle.std.proofs.Common.{◌≡◌, ◌+◌, ◌<◌, ◌≤◌, ℕ, zero, suc, Bool, true, List, [], ◌∷◌, ◌++◌, length, take, drop, get_or, refl, sym, ap, ◌∙◌, subst, inl, inr, arith}
use Rattle.std.proofs.lemmas.List.{get_or_default}
use Rattle.std.specs.Prelude.{filter}
use Rattle.std.specs.Cmp.{IsTotalOrder, alike_right}
use Rattle.std.specs.List.{AllByRecursion, AllWithin}
use Rattle.std.specs.List.Sorted.{IsStrictlySortedBy, IsNonDecreasingBy}
use Rattle.std.specs.Ordering.{ordering_index, ordering_reverse}
use Rattle.std.specs.declared.cmp.Ordering.{Ordering}
use Rattle.std.specs.declared.cmp.Ordering.TheVariants.{Less, Equal, Greater}
use Rattle.px_base.proofs.Loops.{level_or_below}
use Rattle.px_base.specs.Sets.{place_item, with_item}
use Rattle.px_base.specs.SetLaws.{with_item-below}

all_at : {X : Type 0} (P : X → Type 0) (xs : List X) (j : ℕ) (d : X) → AllByRecursion P xs → j < length xs → P (get_or xs j d)
all_at P [] j d all h = absurd (omega (arith, h))
all_at P (x ∷ xs) zero d all h = all.0
all_at P (x ∷ xs) (suc j) d all h = all_at P xs j d all.1 (omega (arith, h))

pub prefix_of : {X : Type 0} (P : X → Type 0) (xs : List X) (i : ℕ) → i ≤ length xs → AllWithin P xs 0 i → AllByRecursion P (take i xs)
prefix_of P xs zero h all = tt
prefix_of P [] (suc i) h all = absurd (omega (arith, h))
prefix_of P (x ∷ xs) (suc i) h all = (
  all 0 x (omega arith) (omega arith),
  prefix_of P xs i (omega (arith, h)) (λ k d low high. all (suc k) d (omega arith) (omega (arith, high))),
)

pub back_of : {X : Type 0} (P : X → Type 0) (xs : List X) (i : ℕ) → AllWithin P xs i (length xs) → AllByRecursion P (drop i xs)
back_of P [] zero all = tt
back_of P [] (suc i) all = tt
back_of P (x ∷ xs) zero all =
    (all 0 x (omega arith) (omega arith), back_of P xs zero (λ k d low high. all (suc k) d (omega arith) (omega (arith, high))))
back_of P (x ∷ xs) (suc i) all = back_of P xs i (λ k d low high. all (suc k) d (omega (arith, low)) (omega (arith, high)))

pub filter_all : {X : Type 0} (p : X → Bool) (xs : List X) → AllByRecursion (λ x. p x ≡ true) xs → filter p xs ≡ xs
filter_all p [] all = refl
filter_all p (x ∷ xs) all = rw all.0 (ap (λ l. x ∷ l) (filter_all p xs all.1))

module _ {K : Type 0} (R : K → K → Ordering) (o : IsTotalOrder R) where
  pub sorted_pair : (xs : List K) (i j : ℕ) (d : K) → IsStrictlySortedBy R xs → i < j → j < length xs
      → R (get_or xs i d) (get_or xs j d) ≡ Less
  unfolding IsStrictlySortedBy
  sorted_pair [] i j d sorted h k = absurd (omega (arith, k))
  sorted_pair (x ∷ xs) i zero d sorted h k = absurd (omega (arith, h))
  sorted_pair (x ∷ xs) zero (suc j) d sorted h k = all_at (λ y. R x y ≡ Less) xs j d sorted.0 (omega (arith, k))
  sorted_pair (x ∷ xs) (suc i) (suc j) d sorted h k = sorted_pair xs i j d sorted.1 (omega (arith, h)) (omega (arith, k))

  index_most : (r : Ordering) → ordering_index r ≤ 2
  index_most Less = omega arith
  index_most Equal = omega arith
  index_most Greater = omega arith

  rises : (x y a : K) → R x y ≡ Less → ordering_index (R x a) ≤ ordering_index (R y a)
  rises x y a below = elim (R y a) as (λ r. R y a ≡ r → ordering_index (R x a) ≤ ordering_index r) [
    | Less ↦ λ e. rw (o.trans x y a below e) (omega arith)
    | Equal ↦ λ e. rw (sym (alike_right o y a x e) ∙ below) (omega arith)
    | Greater ↦ λ e. index_most (R x a)
  ] refl

  -- the answers of a comparison with an item rise along an ascending list
  pub rising : (xs : List K) (a : K) → IsStrictlySortedBy R xs → IsNonDecreasingBy (λ y. ordering_index (R y a)) xs
  rising xs a sorted i j d h k =
      elim (level_or_below i j (omega (arith, h))) [
        | inl below ↦ rises _ _ a (sorted_pair xs i j d sorted below k)
        | inr level ↦ rw level (omega arith)
      ]

  -- an item stands between those below it and those above it
  pub with_item-between : (a : K) (before after : List K) → AllByRecursion (λ y. R y a ≡ Less) before
      → AllByRecursion (λ y. R a y ≡ Less) after
      → with_item R a (before ++ after) ≡ before ++ a ∷ after
  unfolding with_item
  with_item-between a [] after below above = with_item-below R a after above
  with_item-between a (x ∷ before) after below above =
      ap (λ r. place_item r a x (before ++ after) (with_item R a (before ++ after))) (o.antisymm a x ∙ ap ordering_reverse below.0)
      ∙ ap (λ l. x ∷ l) (with_item-between a before after below.1 above)

  -- the parts of an ascending list around an item of it
  pub around : (xs : List K) (a : K) (i : ℕ) → IsStrictlySortedBy R xs → i < length xs → get_or xs i a ≡ a
      → AllByRecursion (λ y. R y a ≡ Less) (take i xs) × AllByRecursion (λ y. R a y ≡ Less) (drop (i + 1) xs)
  around xs a i sorted here is =
      let itself : (d : K) → get_or xs i d ≡ a = λ d. get_or_default xs i d a here ∙ is in (
        prefix_of _ xs i (omega arith) (λ k d low high. subst (λ y. R (get_or xs k d) y ≡ Less) (itself d)
            (sorted_pair xs k i d sorted high here)),
        back_of _ xs (i + 1) (λ k d low high. subst (λ y. R y (get_or xs k d) ≡ Less) (itself d)
            (sorted_pair xs i k d sorted (omega (arith, low)) high)),
      )
