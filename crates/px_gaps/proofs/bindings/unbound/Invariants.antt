use Rattle.px_gaps.specs.Bindings.{AreUnbound}
use Rattle.px_gaps.proofs.bindings.unbound.Given as goal

abbrev pub invariant-loop-variable : goal.invariant-loop-variable
invariant-loop-variable l = AreUnbound l.variable l.terms.items
