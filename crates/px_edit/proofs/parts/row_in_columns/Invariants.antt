use Rattle.std.proofs.Common.{◌≡◌, map, take}
use Rattle.px_proof.specs.ProofTerm.{derivation_of}
use Rattle.px_edit.specs.Editing.{in_columns, new_number}
use Rattle.px_edit.proofs.parts.row_in_columns.Given as goal

abbrev pub invariant-loop-proof : goal.invariant-loop-proof
invariant-loop-proof l =
    map derivation_of l.made.items ≡ map (in_columns (new_number l.kept)) (map derivation_of (take l.proof-index l.proofs))
