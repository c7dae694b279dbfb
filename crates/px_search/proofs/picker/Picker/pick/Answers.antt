use Rattle.std.proofs.Common.{◌<◌, ◌≤◌, ℕ, List, sym, subst, Contains}
use Rattle.px_order.specs.Runs.{Comes, IsNext}
use Rattle.px_ends.specs.ByValue.{space_of}
use Rattle.px_search.specs.Picking.{IsPickerOf}
use Rattle.px_search.specs.Searching.{order_of}
use Rattle.px_search.proofs.PickLaws.{agenda_next, agenda_over, counter_next, counter_over}
use Rattle.px_search.proofs.picker.Picker.pick.Goals as goal

pub returns-then-next-found-clause-next : goal.returns-then-next-found-clause-next
returns-then-next-found-clause-next c task kept lists picked picking count comes =
    let is = subst (IsPickerOf task kept lists picked) c.in-InOrder.is picking in
    subst (λ (l : List ℕ). IsNext (space_of task) (order_of task) lists l c.in-InOrder.next) (sym is.1)
    (counter_next task lists c.in-InOrder.next is.0
    (subst (λ (l : List ℕ). Comes (space_of task) (order_of task) lists l) is.1 comes)
    (subst (λ (n : ℕ). c.in-InOrder.next < n) (sym count) c.if-next-found.true))

pub returns-else-next-found-clause-over : goal.returns-else-next-found-clause-over
returns-else-next-found-clause-over c task kept lists picked picking count k moves at =
    let is = subst (IsPickerOf task kept lists picked) c.in-InOrder.is picking in
    subst (λ (l : List ℕ). Contains l k) (sym is.1)
    (counter_over task lists c.in-InOrder.next (subst (λ (n : ℕ). n ≤ c.in-InOrder.next) (sym count) c.if-next-found.false) k moves at)

pub returns-in-Some-clause-next : goal.returns-in-Some-clause-next
returns-in-Some-clause-next c task kept lists picked picking count comes =
    let is = subst (IsPickerOf task kept lists picked) c.in-ByValue.is picking in
    let e = c.in-Some.ensures in
    (agenda_next task lists picked c.in-ByValue.ranking.agenda c.pick.new.self c.in-Some.field-0-0 c.in-Some.place is.agenda e.taken e.least
    e.tie).0

pub returns-in-Some-clause-left : goal.returns-in-Some-clause-left
returns-in-Some-clause-left c task kept lists picked picking =
    let is = subst (IsPickerOf task kept lists picked) c.in-ByValue.is picking in
    let e = c.in-Some.ensures in
    record {
      agenda =
          (agenda_next task lists picked c.in-ByValue.ranking.agenda c.pick.new.self c.in-Some.field-0-0 c.in-Some.place is.agenda e.taken
          e.least e.tie).1;
      count = is.count;
      lacking = is.lacking;
      long = is.long;
      estimates = is.estimates;
    }

pub returns-in-None-clause-over : goal.returns-in-None-clause-over
returns-in-None-clause-over c task kept lists picked picking count k moves at =
    let is = subst (IsPickerOf task kept lists picked) c.in-ByValue.is picking in
    agenda_over task lists picked c.in-ByValue.ranking.agenda is.agenda c.in-None.ensures.none k moves at
