use Rattle.px_table.proofs.KeptSteps.{KeptBelow}
use Rattle.px_table.proofs.proper_instance.is_kept.Given as goal

abbrev pub invariant-loop-before : goal.invariant-loop-before
invariant-loop-before l = KeptBelow l.problem l.table.steps l.sigma l.first l.mark l.before
