use Rattle.std.proofs.Common.{◌≡◌, take}
use Rattle.px_table.proofs.table.Row.try_copy.Given as goal

abbrev pub invariant-loop-proof : goal.invariant-loop-proof
invariant-loop-proof l = l.copies.items ≡ take l.proof-index l.self
