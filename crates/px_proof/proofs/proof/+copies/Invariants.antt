use Rattle.std.proofs.Common.{◌≡◌, take}
use Rattle.px_proof.proofs.proof.+copies.Given as goal

abbrev pub invariant-copy_each-loop-proof : goal.invariant-copy_each-loop-proof
invariant-copy_each-loop-proof l = l.copies.items ≡ take l.proof-index l.proofs
