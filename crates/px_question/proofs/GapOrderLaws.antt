-- The laws of the order of gap lists.
use Rattle.std.specs.Prelude.{◌≡◌}
use Rattle.std.proofs.Common.{refl, ap, ◌∙◌}
use Rattle.std.proofs.lemmas.Bool.Decides.{Decides-and, Decides-like}
use Rattle.std.proofs.lemmas.Slice.Eq.{bytes_eq-Decides}
use Rattle.std.specs.Bool.{Decides}
use Rattle.std.specs.Cmp.{IsTotalOrder, then_total, on_total, nat_cmp_total, Equal-is}
use Rattle.std.specs.Cmp.Lexicographic.{lists_total, pointwise_decides}
use Rattle.std.specs.declared.cmp.Ordering.TheVariants.{Equal}
use Rattle.px_question.specs.contracts.gap_list.GapListOrd.TheImpl.Laws as gap_list_order
use Rattle.px_question.specs.declared.gap_list.GapList.{GapList}
use Rattle.px_question.specs.GapOrder.{computed_cmp, computed_eq, GapListsAreOrdered}
use Rattle.px_question.specs.Gaps.{gap_list_cmp}
use Rattle.px_terms.specs.OrderLaws.{atom_cmp-total, atom_eq-decides}

pub computed_eq-decides : (first second : GapList) → Decides (computed_eq first second) (first ≡ second)
computed_eq-decides a b =
    Decides-like _ (λ e i. record { objects = e.0 i; gaps = e.1 i })
    (λ e. (ap (λ (l : GapList). l.objects) e, ap (λ (l : GapList). l.gaps) e))
    (Decides-and _ _ (bytes_eq-Decides a.objects b.objects) (pointwise_decides atom_eq-decides a.gaps b.gaps))

pub gap_list_cmp-is : (first second : GapList) → computed_cmp first second ≡ gap_list_cmp first second
gap_list_cmp-is a b = refl

pub gap_list_cmp-total : IsTotalOrder gap_list_cmp
gap_list_cmp-total =
    then_total (on_total (λ (l : GapList). l.objects) (lists_total nat_cmp_total))
    (on_total (λ (l : GapList). l.gaps) (lists_total atom_cmp-total))

-- two that compare as equal are the same
pub gap_list_cmp-same : (a b : GapList) → gap_list_cmp a b ≡ Equal → a ≡ b
gap_list_cmp-same a b e =
    (computed_eq-decides a b).0 (gap_list_order.matches_eq-law a b ∙ (Equal-is (computed_cmp a b)).1 (gap_list_cmp-is a b ∙ e))

pub gap_lists_are_ordered : GapListsAreOrdered
gap_lists_are_ordered = record { order = gap_list_cmp-is; equality = computed_eq-decides }
