use Rattle.px_diff.specs.Pushes.{LimitsRelevant}
use Rattle.px_support.specs.Asking.{task_for}
use Rattle.px_search.specs.Going.{LimitsNode}
use Rattle.px_table.specs.declared.node.Node.{Node}
use Rattle.px_search.proofs.FromLaws.{at_limit, gone-open}
use Rattle.px_search.proofs.Stepping.{limits-open}
use Rattle.px_search.proofs.all_steps.pushes.Goals as goal

pub returns-in_ok-steps-in-Ok-clause-steps : goal.returns-in_ok-steps-in-Ok-clause-steps
returns-in_ok-steps-in-Ok-clause-steps c =
    gone-open (task_for c.args.asked.now) c.numbered.new.numbers
    (record { model = c.args.model.now.atoms; stack = c.args.stack.now }) c.args.gaps.now c.in-Ok.entries.items
    c.in_ok-steps-in-Ok.steps.items c.requires.gaps
    c.in-Ok.ensures.exact c.in-Ok.ensures.order c.in-Ok.ensures.unlimited c.in_ok-steps-in-Ok.ensures.steps

pub returns-in-Err-clause-limited : goal.returns-in-Err-clause-limited
returns-in-Err-clause-limited c =
    let task = task_for c.args.asked.now in
    let node : Node = record { model = c.args.model.now.atoms; stack = c.args.stack.now } in
    at_limit (LimitsRelevant task.problem task.tables c.args.gaps.now node.stack node.model)
    (LimitsNode task node) c.in-Err.error c.in-Err.ensures.limited
    (λ limit limits. limits-open task node c.args.gaps.now c.requires.gaps.exact limit limits)
