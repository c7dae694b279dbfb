use Rattle.std.proofs.Common.{◌≡◌, map, take}
use Rattle.px_proof.specs.ProofTerm.{derivation_of}
use Rattle.px_edit.specs.Editing.{in_columns, new_number}
use Rattle.px_edit.proofs.columns.+columns.Given as goal

abbrev pub invariant-each_in_new_columns-loop-proof : goal.invariant-each_in_new_columns-loop-proof
invariant-each_in_new_columns-loop-proof l =
    map derivation_of l.made.items ≡ map (in_columns (new_number l.kept)) (map derivation_of (take l.proof-index l.proofs))
