use Rattle.std.proofs.Common.{◌≡◌, ◌≤◌, length, map, take}
use Rattle.px_proof.specs.Derivation.{derivations, all_leaves_of}
use Rattle.px_proof.specs.ProofTerm.{derivation_of}
use Rattle.px_table.specs.Marks.{mark_eq, mark_of}
use Rattle.px_table.specs.Once.{put_each}
use Rattle.px_table.proofs.mark_list.+walks.Given as goal

abbrev pub invariant-after_proofs-loop-proof : goal.invariant-after_proofs-loop-proof
invariant-after_proofs-loop-proof l = record {
  within : l.at ≤ length l.marks;
  prefix : take l.at l.marks ≡ put_each mark_eq (take l.count l.marks)
      (map (mark_of l.row) (all_leaves_of (derivations (map derivation_of (take l.proof-index l.proofs)))));
}
