use Rattle.std.proofs.Common.{◌<◌, List, subst, sym}
use Rattle.std.specs.Prelude.{Any}
use Rattle.px_proof.specs.declared.proof.Proof.{Proof}
use Rattle.px_proof.specs.Derivation.{height}
use Rattle.px_table.specs.Tables.{rows_of}
use Rattle.px_general.proofs.LimitSteps.{high_rows}
use Rattle.px_session.proofs.asking.is_too_deep.Goals as goal

pub returns : goal.returns
returns c =
    let high = high_rows c.as_slice.result.now in (
      λ yes. subst (λ (rows : List (List Proof)). Any (Any (λ d. 56 < height d)) (rows_of rows)) c.as_slice.ensures
          (high.0 (c.has_high_row.ensures.0 yes)),
      λ deep. c.has_high_row.ensures.1 (high.1 (subst (λ (rows : List (List Proof)). Any (Any (λ d. 56 < height d)) (rows_of rows))
          (sym c.as_slice.ensures) deep)),
    )
