use Rattle.std.proofs.Common.{ap, length, arith}
use Rattle.px_terms.proofs.VariableLemmas.{length-variables}
use Rattle.px_replay.proofs.opening.fresh_atom.Goals as goal

pub of-requires : goal.of-requires
of-requires c = omega (
  arith,
  ap length c.deref.ensures.value,
  ap length c.in_ok-terms.ensures,
  length-variables c.args.first (length c.args-2.result.now),
  ap length c.args-2.ensures.value,
  c.args-2.ensures.at_most,
)
