use Rattle.px_search.proofs.StepLaws.{pushed_stands}
use Rattle.px_search.proofs.after.pushed.Goals as goal

pub returns-clause-there : goal.returns-clause-there
returns-clause-there c = λ node top stands at.
    pushed_stands c.args.numbers.now c.pushed.new.self c.args.key c.in_ok-stack.stack node top c.in_ok-stack.ensures.keeps stands
    (c.in_ok-stack.ensures.stack top node.stack at stands.stack)
