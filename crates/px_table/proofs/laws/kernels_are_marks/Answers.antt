use Rattle.px_table.specs.KernelLaws.{kernels_are_marks}
use Rattle.px_table.proofs.laws.kernels_are_marks.Goals as goal

pub returns : goal.returns
returns c = kernels_are_marks
