use Rattle.std.proofs.Common.{◌≡◌, [], map, take}
use Rattle.px_proof.specs.ProofTerm.{derivation_of}
use Rattle.px_table.specs.Marks.{mark_eq, mark_of, row_leaves}
use Rattle.px_table.specs.Once.{put_each}
use Rattle.px_table.proofs.building.marks_of_row.Given as goal

abbrev pub invariant-loop-proof : goal.invariant-loop-proof
invariant-loop-proof l =
    l.marks.keys ≡ put_each mark_eq [] (map (mark_of l.number) (row_leaves (map derivation_of (take l.proof-index l.proofs))))
