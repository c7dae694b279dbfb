-- Lists that are sorted and lose repeats.
use Rattle.std.proofs.Common.{◌≡◌, Bool, List, sym, subst}
use Rattle.std.specs.Prelude.{◌↔◌, Contains}
use Rattle.std.specs.Bool.{Decides}
use Rattle.std.specs.List.{dedup}
use Rattle.std.specs.List.Sorted.{IsStrictlySortedBy, IsSorted, IsPermutation}
use Rattle.std.proofs.lemmas.List.Kept.{IsStrictlySortedBy-dedup, Contains-dedup, Contains-from_dedup}
use Rattle.std.proofs.lemmas.List.Sorted.{Contains-permutation, IsPermutation-sym}
use Rattle.px_question.specs.GapOrder.{computed_cmp, computed_eq}
use Rattle.px_question.proofs.GapOrderLaws.{gap_list_cmp-total}
use Rattle.px_question.specs.Gaps.{gap_list_cmp}
use Rattle.px_question.specs.contracts.gap_list.GapListOrd.TheImpl.Laws as gap_list_order
use Rattle.px_question.specs.declared.gap_list.GapList.{GapList}
use Rattle.px_terms.specs.AtomSets.{IsAtomSet}
use Rattle.px_terms.specs.Order.{atom_cmp, atom_eq}
use Rattle.px_terms.specs.OrderLaws.{atom_cmp-matches_eq, atom_cmp-total, decides_equiv}
use Rattle.px_terms.specs.declared.atom.Atom.{Atom}

module _ {X : Type 0} (E : X → X → Bool) (decides : (x y : X) → Decides (E x y) (x ≡ y)) where
  -- an item is there after sorting and losing repeats exactly where it was there before
  pub ordered-members : (old sorted new : List X) → IsPermutation old sorted → new ≡ dedup E sorted → (x : X) → Contains new x
      ↔ Contains old x
  ordered-members old sorted new permuted is x = rw is (
    λ h. Contains-permutation sorted old x (IsPermutation-sym old sorted permuted) (Contains-from_dedup E sorted x h),
    λ h. Contains-dedup (decides_equiv E decides) (λ a b. (decides a b).0) sorted x (Contains-permutation old sorted x permuted h),
  )

pub gap_lists-ascend : (sorted new : List GapList) → IsSorted computed_cmp sorted → new ≡ dedup computed_eq sorted
    → IsStrictlySortedBy gap_list_cmp new
gap_lists-ascend sorted new ascends is =
    subst (IsStrictlySortedBy gap_list_cmp) (sym is)
    (IsStrictlySortedBy-dedup gap_list_cmp-total gap_list_order.matches_eq-law sorted ascends)

pub atoms-ascend : (sorted new : List Atom) → IsSorted atom_cmp sorted → new ≡ dedup atom_eq sorted → IsAtomSet new
atoms-ascend sorted new ascends is =
    subst (IsStrictlySortedBy atom_cmp) (sym is) (IsStrictlySortedBy-dedup atom_cmp-total atom_cmp-matches_eq sorted ascends)
