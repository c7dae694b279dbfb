-- Lists without repeats.
use Rattle.std.proofs.Common.{◌≡◌, Bool, List}
use Rattle.std.specs.Bool.{Decides}
use Rattle.std.specs.Prelude.{◌↔◌, Contains}
use Rattle.std.specs.List.{dedup}
use Rattle.std.specs.List.Sorted.{IsPermutation}
use Rattle.std.proofs.lemmas.List.Kept.{Contains-dedup, Contains-from_dedup}
use Rattle.std.proofs.lemmas.List.Sorted.{Contains-permutation, IsPermutation-sym}
use Rattle.px_terms.specs.OrderLaws.{decides_equiv}

-- an item is there after sorting and losing repeats exactly where it was there before
pub sorted_members : {X : Type 0} (E : X → X → Bool) (decides : (x y : X) → Decides (E x y) (x ≡ y)) (old sorted new : List X)
    → IsPermutation old sorted → new ≡ dedup E sorted → (x : X) → Contains old x ↔ Contains new x
sorted_members E decides old sorted new permuted is x = rw is (
  λ h. Contains-dedup (decides_equiv E decides) (λ a b. (decides a b).0) sorted x (Contains-permutation old sorted x permuted h),
  λ h. Contains-permutation sorted old x (IsPermutation-sym old sorted permuted) (Contains-from_dedup E sorted x h),
)
