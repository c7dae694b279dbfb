use Rattle.std.proofs.Common.{true}
use Rattle.px_support.specs.Asking.{task_for}
use Rattle.px_search.proofs.BeginningLaws.{all-successors}
use Rattle.px_search.proofs.moves.all_pushes.Goals as goal

pub returns-in-Ok-clause-steps : goal.returns-in-Ok-clause-steps
returns-in-Ok-clause-steps c =
    all-successors (task_for c.args.asked.now) c.pushes.new.numbers
    (record { model = c.args.model.now.atoms; stack = c.args.stack.now }) c.in-Ok.steps.items true c.in-Ok.ensures.steps
