use Rattle.std.proofs.Common.{◌≡◌, ◌++◌, take}
use Rattle.std.specs.Prelude.{flat_map}
use Rattle.px_edit.proofs.PartSteps.{proof_terms}
use Rattle.px_edit.proofs.walking.+terms.Given as goal

abbrev pub invariant-add_each-loop-proof : goal.invariant-add_each-loop-proof
invariant-add_each-loop-proof l = l.walked.items ≡ l.initial.walked.items ++ flat_map proof_terms (take l.proof-index l.proofs)
