use Rattle.std.proofs.Common.{◌≡◌, ◌++◌}
use Rattle.px_prover.specs.Tuples.{longer_by}
use Rattle.px_prover.proofs.tuples.push_longer.Given as goal

abbrev pub invariant-loop-object : goal.invariant-loop-object
invariant-loop-object l = l.made.items ≡ l.fn.made.items ++ longer_by l.tuple l.object
