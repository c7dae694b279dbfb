use Rattle.std.proofs.Common.{◌≡◌}
use Rattle.px_terms.specs.Substitution.{variables_from}
use Rattle.px_replay.proofs.opening.variables.Given as goal

abbrev pub invariant-loop-k : goal.invariant-loop-k
invariant-loop-k l = l.terms.items ≡ variables_from l.first l.k
