use Rattle.std.proofs.Common.{◌<◌, ◌-◌, [], refl, arith}
use Rattle.std.specs.Prelude.{Any, slice_index, slice_index_or}
use Rattle.px_proof.specs.declared.proof.Proof.{Proof}
use Rattle.px_proof.specs.Derivation.{height}
use Rattle.px_proof.specs.ProofTerm.{derivation_of}
use Rattle.px_edit.specs.EditCauses.{most_kept_height}
use Rattle.px_edit.proofs.EditSteps.{none-next}
use Rattle.px_base.specs.Answers.{both_answers}
use Rattle.px_edit.proofs.HighSteps.{high-there, high-nowhere}
use Rattle.px_edit.proofs.parts.has_high_row.Goals as goal

pub returns-then-is_high_row : goal.returns-then-is_high_row
returns-then-is_high_row c = (
  λ _. high-there c.args.table.now.proofs c.args.kept.now c.loop-place.place c.loop-place-test.true
      (c.is_high_row.ensures.0 c.if-is_high_row.true),
  λ _. refl,
)

pub returns : goal.returns
returns c = (
  λ holds. both_answers _ refl holds,
  λ high. absurd (high-nowhere c.args.table.now.proofs c.args.kept.now
      (λ k below. c.loop-place.invariant k (omega (arith, below, c.loop-place-test.false))) high),
)

pub loop-place-preserved : goal.loop-place-preserved
loop-place-preserved c =
    none-next (λ k. Any (λ (proof : Proof). most_kept_height < height (derivation_of proof))
    (slice_index_or c.args.table.now.proofs (slice_index c.args.kept.now k - 1) [])) c.loop-place.place c.loop-place.invariant
    (λ high. both_answers _ c.if-is_high_row.false (c.is_high_row.ensures.1 high))
