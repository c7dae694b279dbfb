-- No place is picked twice, so fewer places were picked than there are lists while one is left.
use Rattle.std.proofs.Common.{◌≡◌, ◌<◌, ◌≤◌, ◌⊎◌, ℕ, zero, suc, List, [], ◌∷◌, length, refl, sym, ◌∙◌, ap, subst, inl, inr, arith, Some, slice_get, slice_index_or, Contains}
use Rattle.px_base.specs.ListLaws.{Contains-cases}
use Rattle.px_order.specs.AnyOrder.{pigeons}
use Rattle.px_order.specs.Places.{at_index, contains_place, some-one}
use Rattle.px_order.specs.RunLaws.{behind}
use Rattle.px_order.specs.Runs.{Comes, Finds, IsNext, Picks, RunsFor}
use Rattle.px_order.specs.Spaces.{Order, Space}

-- no number stands twice
abbrev AreApart : List ℕ → Type 0
AreApart numbers = (i j k : ℕ) → slice_get numbers i ≡ Some k → slice_get numbers j ≡ Some k → i ≡ j

none-apart : AreApart []
none-apart i j k at_i at_j = absurd (cc)

more-apart : (n : ℕ) (numbers : List ℕ) → AreApart numbers → (¬ Contains numbers n) → AreApart (n ∷ numbers)
more-apart n numbers apart fresh zero zero k at_i at_j = refl
more-apart n numbers apart fresh zero (suc j) k at_i at_j =
    absurd (fresh (subst (λ (x : ℕ). Contains numbers x) (sym (some-one n k at_i)) (contains_place numbers j k at_j)))
more-apart n numbers apart fresh (suc i) zero k at_i at_j =
    absurd (fresh (subst (λ (x : ℕ). Contains numbers x) (sym (some-one n k at_j)) (contains_place numbers i k at_i)))
more-apart n numbers apart fresh (suc i) (suc j) k at_i at_j = ap suc (apart i j k at_i at_j)

-- so below a bound they are few
few-apart : (numbers : List ℕ) (bound : ℕ) → AreApart numbers → ((k : ℕ) → Contains numbers k → k < bound) → length numbers ≤ bound
few-apart numbers bound apart below =
    pigeons (length numbers) bound (λ i. slice_index_or numbers i 0)
    (λ i within. below (slice_index_or numbers i 0) (contains_place numbers i (slice_index_or numbers i 0) (at_index numbers i 0 within)))
    (λ i j within other same. apart i j (slice_index_or numbers i 0) (at_index numbers i 0 within)
    (at_index numbers j 0 other ∙ ap Some (sym same)))

module _ {N M : Type 0} (space : Space N M) (order : Order N M) where
  picked-apart : (n : ℕ) (found : List (List M)) (picked : List ℕ) → RunsFor space order n found picked → AreApart picked
  picked-apart zero found picked r = subst AreApart (sym r.1) none-apart
  picked-apart (suc n) found picked r = by (picked-apart n r.0 r.1 r.2) r.3
    where
      by : AreApart r.1 → Picks space order r.0 r.1 found picked ⊎ Finds space order r.0 r.1 found picked → AreApart picked
      by apart (inl x) = subst AreApart (sym x.picked_is) (more-apart x.place r.1 apart x.next.fresh)
      by apart (inr x) = subst AreApart (sym x.picked_is) apart

  pub picks_left : (found : List (List M)) (picked : List ℕ) (place : ℕ) → Comes space order found picked
      → IsNext space order found picked place → place < length found → length picked < length found
  picks_left found picked place comes next inside =
      few-apart (place ∷ picked) (length found) (more-apart place picked (picked-apart comes.0 found picked comes.1) next.fresh)
      (λ k has. elim (Contains-cases place picked k has) [
        | inl e ↦ omega (arith, e, inside)
        | inr before ↦ (behind space order comes.0 found picked comes.1).within k before
      ])
