use Rattle.std.proofs.Common.{◌<◌, ◌-◌, ℕ, []}
use Rattle.std.specs.Prelude.{Any, slice_index, slice_index_or}
use Rattle.px_proof.specs.Derivation.{height}
use Rattle.px_proof.specs.ProofTerm.{derivation_of}
use Rattle.px_edit.specs.EditCauses.{most_kept_height}
use Rattle.px_edit.proofs.parts.has_high_row.Given as goal

abbrev pub invariant-loop-place : goal.invariant-loop-place
invariant-loop-place l = (k : ℕ) → k < l.place
    → ¬ Any (λ proof. most_kept_height < height (derivation_of proof)) (slice_index_or l.table.proofs (slice_index l.kept k - 1) [])
