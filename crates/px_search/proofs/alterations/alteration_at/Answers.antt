use Rattle.px_support.specs.Asking.{task_for}
use Rattle.px_search.proofs.AlterationLaws.{alteration-at}
use Rattle.px_search.proofs.alterations.alteration_at.Goals as goal

pub returns-in_ok-alteration-in-Op : goal.returns-in_ok-alteration-in-Op
returns-in_ok-alteration-in-Op c =
    alteration-at (task_for c.args.asked.now) c.args.numbers.now c.args.place c.entry.result.now c.in-Op.inst
    c.in_ok-alteration-in-Op.alteration c.entry.ensures c.in-Op.is c.in_ok-alteration-in-Op.ensures
