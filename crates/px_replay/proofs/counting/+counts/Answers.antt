use Rattle.std.proofs.Common.{◌∙◌, ap, length, arith}
use Rattle.px_proof.specs.LayerLaws.{derivation_of-step}
use Rattle.px_proof.specs.ProofTerm.{derivation_of}
use Rattle.px_replay.specs.FreshOf.{row_fresh}
use Rattle.px_replay.specs.FreshVariables.{fresh_in}
use Rattle.px_replay.proofs.OpenSteps.{all_fresh-sum}
use Rattle.px_replay.proofs.counting.+counts.Goals as goal

pub count_proof-returns-in-Step : goal.count_proof-returns-in-Step
count_proof-returns-in-Step t c =
    let is = ap derivation_of c.in-Step.is ∙ derivation_of-step c.in-Step.clause c.in-Step.theta c.in-Step.place c.in-Step.subs in
    omega (
      arith,
      c.saturating_add.ensures,
      c.count_each.ensures,
      ap fresh_in is,
      all_fresh-sum c.in-Step.subs,
      ap length c.as_slice.ensures,
      ap row_fresh c.as_slice-in-Step.ensures,
    )
