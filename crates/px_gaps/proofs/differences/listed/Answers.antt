use Rattle.std.proofs.Common.{◌∙◌}
use Rattle.px_gaps.proofs.differences.listed.Goals as goal

pub returns-clause-same : goal.returns-clause-same
returns-clause-same c = c.into_vec.ensures ∙ c.in_ok-from_slice.ensures ∙ c.atoms.ensures.value
