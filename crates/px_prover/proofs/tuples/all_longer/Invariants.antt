use Rattle.std.proofs.Common.{◌≡◌, take}
use Rattle.px_prover.specs.Tuples.{all_longer_by}
use Rattle.px_prover.proofs.tuples.all_longer.Given as goal

abbrev pub invariant-loop-tuple : goal.invariant-loop-tuple
invariant-loop-tuple l = l.made.items ≡ all_longer_by l.objects (take l.tuple-index l.tuples)
