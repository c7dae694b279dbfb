use Rattle.std.proofs.Common.{◌≡◌, ◌++◌, take}
use Rattle.std.specs.Prelude.{flat_map}
use Rattle.px_general.proofs.WalkSteps.{proof_leaf_terms}
use Rattle.px_general.proofs.walking.add_row_leaves.Given as goal

abbrev pub invariant-loop-proof : goal.invariant-loop-proof
invariant-loop-proof l = l.walked.items ≡ l.initial.walked.items ++ flat_map proof_leaf_terms (take l.proof-index l.proofs)
