use Rattle.px_support.proofs.SourceLaws.{NotAmongFirst}
use Rattle.px_support.proofs.sources.first_place.Given as goal

abbrev pub invariant-loop-k : goal.invariant-loop-k
invariant-loop-k l = NotAmongFirst l.problem l.inst l.atom l.k
