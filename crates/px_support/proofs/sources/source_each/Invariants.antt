use Rattle.std.specs.Prelude.{map, take}
use Rattle.px_proof.specs.ProofTerm.{derivation_of}
use Rattle.px_support.specs.Sources.{AreSources}
use Rattle.px_support.proofs.sources.source_each.Given as goal

abbrev pub invariant-loop-leaf : goal.invariant-loop-leaf
invariant-loop-leaf l = AreSources l.problem l.steps (take l.leaf-index l.leaves) (map derivation_of l.parts.items)
