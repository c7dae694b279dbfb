use Rattle.px_table.specs.KernelLaws.{kernels_carry}
use Rattle.px_general.proofs.generalising.generalise.Goals as goal

pub returns-in-Ok-clause-kernels : goal.returns-in-Ok-clause-kernels
returns-in-Ok-clause-kernels c = kernels_carry c.args.problem.now c.in-Ok.general c.in-Ok.ensures.0.table
