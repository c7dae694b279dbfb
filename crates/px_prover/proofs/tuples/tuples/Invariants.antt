use Rattle.std.proofs.Common.{◌≡◌}
use Rattle.px_prover.specs.Tuples.{tuples_of}
use Rattle.px_prover.proofs.tuples.tuples.Given as goal

abbrev pub invariant-loop-place : goal.invariant-loop-place
invariant-loop-place l = l.made.items ≡ tuples_of l.objects l._place
