use Rattle.px_table.specs.UnderLaws.{step_under-objects}
use Rattle.px_table.proofs.proper_instance.step_deletes.Goals as goal

pub deletes-requires-clause-objects : goal.deletes-requires-clause-objects
deletes-requires-clause-objects c =
    rw c.instance_with-inst.ensures
    (step_under-objects c.args.problem.now c.args.table.now.params c.args.sigma.now c.args.step.now c.requires.sigma c.requires.step)
