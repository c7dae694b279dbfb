use Rattle.std.proofs.Common.{◌≤◌, ap, length, arith}
use Rattle.px_terms.proofs.VariableLemmas.{length-variables}
use Rattle.px_replay.proofs.opening.open_step.Goals as goal

pub unreachable-requires : goal.unreachable-requires
unreachable-requires c =
    let long : length c.deref.result.now ≤ 8 =
    omega (
      arith,
      ap length c.deref.ensures.value,
      ap length c.in_ok-terms.ensures,
      length-variables c.args.first (length c.args-2.result.now),
      ap length c.args-2.ensures.value,
      c.args-2.ensures.at_most,
    ) in
    let none_made = c.in-None.ensures.fits.1 long in
    absurd (cc)
