use Rattle.std.proofs.Common.{subst}
use Rattle.px_base.proofs.Loops.{on_ok}
use Rattle.px_support.specs.Asking.{task_for}
use Rattle.px_search.specs.Picking.{IsPickerOf}
use Rattle.px_search.proofs.picker.Picker.go_on.Goals as goal

pub returns-in-ByValue : goal.returns-in-ByValue
returns-in-ByValue c =
    on_ok c.go_on.result (λ goes found picked moves picking onward within. goes found picked moves
    (subst (IsPickerOf (task_for c.args.asked.now) c.args.numbers.now found picked) c.in-ByValue.is picking) onward within) c.go_on.ensures
