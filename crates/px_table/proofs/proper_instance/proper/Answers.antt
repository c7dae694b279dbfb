use Rattle.px_table.specs.KernelLaws.{tail_carries}
use Rattle.px_table.proofs.proper_instance.proper.Goals as goal

pub returns-then-objects_fit-clause-carries : goal.returns-then-objects_fit-clause-carries
returns-then-objects_fit-clause-carries c =
    λ holds. tail_carries c.args.problem.now c.args.table.now c.args.sigma.now c.args.i c.requires.table c.requires.sigma
    c.requires.number.0 c.requires.number.1 (c.are_kept.ensures.0 holds)
