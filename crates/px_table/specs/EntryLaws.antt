-- The laws of entries and moves: the order of entries, and that `==` is equality.
use Rattle.std.specs.Prelude.{◌≡◌}
use Rattle.std.proofs.Common.{refl, ap, sym, ◌∙◌}
use Rattle.std.proofs.lemmas.Bool.Decides.{Decides-and, Decides-eqb, Decides-like}
use Rattle.std.proofs.lemmas.Slice.Eq.{bytes_eq-Decides}
use Rattle.std.specs.Bool.{Decides}
use Rattle.std.specs.Cmp.{IsTotalOrder, Equal-is}
use Rattle.std.specs.Ordering.{ordering_reverse}
use Rattle.std.specs.declared.cmp.Ordering.TheVariants.{Equal}
use Rattle.px_terms.specs.OrderLaws.{instance_eq-decides}
use Rattle.px_table.specs.contracts.entry.EntryOrd.TheImpl.Laws as entry_order
use Rattle.px_table.specs.declared.entry.Entry.{Entry}
use Rattle.px_table.specs.declared.entry.Entry.TheVariants.{Op, Macro}
use Rattle.px_table.specs.declared.entry.Move.TheVariants.{Push, Apply}
use Rattle.px_table.specs.EntryOrder.{entry_eq, entry_cmp, order_of_entries, EntriesAreOrdered, MovesAreCompared}

pub entry_cmp-is : (first second : Entry) → entry_cmp first second ≡ order_of_entries first second
entry_cmp-is (Op a) (Op b) = refl
entry_cmp-is (Op a) (Macro n p s) = refl
entry_cmp-is (Macro n p s) (Op b) = refl
entry_cmp-is (Macro n p s) (Macro m q t) = refl

pub entry_eq-decides : (first second : Entry) → Decides (entry_eq first second) (first ≡ second)
entry_eq-decides (Op a) (Op b) = Decides-like _ (λ e. ap Op e) (λ e. cc) (instance_eq-decides a b)
entry_eq-decides (Op a) (Macro n p s) = (λ h. cc, λ h. cc)
entry_eq-decides (Macro n p s) (Op b) = (λ h. cc, λ h. cc)
entry_eq-decides (Macro n p s) (Macro m q t) =
    Decides-like _ (λ e i. Macro (e.0 i) (e.1.0 i) (e.1.1 i)) (λ e. (cc, (cc, cc)))
    (Decides-and _ _ (Decides-eqb n m) (Decides-and _ _ (Decides-eqb p q) (bytes_eq-Decides s t)))

pub entries_are_ordered : EntriesAreOrdered
entries_are_ordered = record { order = entry_cmp-is; equality = entry_eq-decides }

-- the order is total
pub order_of_entries-total : IsTotalOrder order_of_entries
order_of_entries-total = record {
  antisymm = λ x y. sym (entry_cmp-is x y) ∙ entry_order.total-law.antisymm x y ∙ ap ordering_reverse (entry_cmp-is y x);
  trans = λ x y z h k. sym (entry_cmp-is x z) ∙ entry_order.total-law.trans x y z (entry_cmp-is x y ∙ h) (entry_cmp-is y z ∙ k);
  congr = λ x y z h. sym (entry_cmp-is x z) ∙ entry_order.total-law.congr x y z (entry_cmp-is x y ∙ h) ∙ entry_cmp-is y z;
}

-- two that compare as equal are the same
pub order_of_entries-same : (first second : Entry) → order_of_entries first second ≡ Equal → first ≡ second
order_of_entries-same first second e = (entry_eq-decides first second).0
    (entry_order.matches_eq-law first second ∙ (Equal-is (entry_cmp first second)).1 (entry_cmp-is first second ∙ e))

pub moves_are_compared : MovesAreCompared
moves_are_compared (Push a) (Push b) = Decides-like _ (λ e. ap Push e) (λ e. cc) (entry_eq-decides a b)
moves_are_compared (Push a) Apply = (λ h. cc, λ h. cc)
moves_are_compared Apply (Push b) = (λ h. cc, λ h. cc)
moves_are_compared Apply Apply = (λ h. refl, λ h. refl)
