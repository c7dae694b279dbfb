use Rattle.px_support.proofs.SourceLaws.{NotAddedByLast}
use Rattle.px_support.proofs.sources.source_of.Given as goal

abbrev pub invariant-loop-passed : goal.invariant-loop-passed
invariant-loop-passed l = NotAddedByLast l.problem l.steps l.atom l.passed
