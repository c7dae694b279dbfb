use Rattle.std.proofs.Common.{◌≡◌, map, take}
use Rattle.px_proof_walk.specs.Values.{value_of}
use Rattle.px_prover.proofs.listing.values_of.Given as goal

abbrev pub invariant-loop-term : goal.invariant-loop-term
invariant-loop-term l = l.objects.items ≡ map (value_of l.values) (take l.term-index l.terms)
