use Rattle.std.specs.Prelude.{map, take}
use Rattle.std.specs.List.{AllZip}
use Rattle.px_proof.specs.ProofTerm.{derivation_of}
use Rattle.px_ends.specs.Made.{IsSourced}
use Rattle.px_support.proofs.rows.sourced_row.Given as goal

abbrev pub invariant-loop-proof : goal.invariant-loop-proof
invariant-loop-proof l =
    AllZip (IsSourced l.problem l.steps) (map derivation_of (take l.proof-index l.proofs)) (map derivation_of l.made.items)
