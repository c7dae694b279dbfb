use Rattle.px_table.specs.KernelLaws.{rows_meet_preconditions}
use Rattle.px_table.proofs.laws.rows_meet_preconditions.Goals as goal

pub returns : goal.returns
returns c = rows_meet_preconditions
