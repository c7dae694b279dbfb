-- How `==` and `cmp` compare gap lists.
use Rattle.std.specs.Prelude.{◌≡◌, Bool}
use Rattle.std.specs.Bool.{Decides}
use Rattle.std.specs.declared.cmp.Ordering.{Ordering}
use Rattle.px_question.specs.contracts.gap_list.GapListOrd.TheImpl as gap_list_order
use Rattle.px_question.specs.contracts.gap_list.GapListPartialEq.TheImpl as gap_list_equality
use Rattle.px_question.specs.declared.gap_list.GapList.{GapList}
use Rattle.px_question.specs.Gaps.{gap_list_cmp}

-- `==`, as it is computed
abbrev pub computed_eq : GapList → GapList → Bool
computed_eq = (gap_list_equality.ghosts).eq

-- `cmp`, as it is computed
abbrev pub computed_cmp : GapList → GapList → Ordering
computed_cmp = (gap_list_order.ghosts).cmp

-- `cmp` is the order by objects and then by atoms, and `==` is equality
pub record GapListsAreOrdered : Type 0 where
  pub order : (first second : GapList) → computed_cmp first second ≡ gap_list_cmp first second
  pub equality : (first second : GapList) → Decides (computed_eq first second) (first ≡ second)
