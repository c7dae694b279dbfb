use Rattle.std.proofs.Common.{arith}
use Rattle.px_table.specs.declared.node.Node.{Node}
use Rattle.px_gaps.specs.Known.{IsTriedOf}
use Rattle.px_numbers.specs.Numbers.{IsKeyOf}
use Rattle.px_base.proofs.Loops.{ok_map}
use Rattle.px_support.specs.Asking.{task_for}
use Rattle.px_search.specs.Asking.{IsTriedAt}
use Rattle.px_ends.specs.Tasks.{goal_from}
use Rattle.px_search.proofs.StepLaws.{tried_at}
use Rattle.px_search.proofs.tried.try_node.Goals as goal

pub returns : goal.returns
returns c =
    let task = task_for c.args.asked.now in
    ok_map (IsTriedOf task.problem (goal_from task c.in_ok-model.model.atoms))
    (λ tried. (node : Node) → IsKeyOf c.args.numbers.now c.args.key node → IsTriedAt task node tried)
    (λ tried is node stands. tried_at task c.args.numbers.now c.args.key node c.in_ok-model.model.atoms tried stands
    (omega (arith, c.if-key-ne0.false)) c.in_ok-model.ensures is) c.try_formula.result c.try_formula.ensures
