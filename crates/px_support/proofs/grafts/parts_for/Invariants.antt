use Rattle.std.specs.Prelude.{map, take}
use Rattle.px_proof.specs.ProofTerm.{derivation_of}
use Rattle.px_support.specs.Grafted.{AreParts}
use Rattle.px_support.proofs.grafts.parts_for.Given as goal

abbrev pub invariant-loop-leaf : goal.invariant-loop-leaf
invariant-loop-leaf l = AreParts l.graft (map derivation_of l.firsts) (take l.leaf-index l.leaves) (map derivation_of l.parts.items)
