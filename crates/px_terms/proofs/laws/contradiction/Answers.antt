use Rattle.px_terms.proofs.ContradictionLaws.{contradiction_unmet}
use Rattle.px_terms.proofs.laws.contradiction.Goals as goal

pub returns : goal.returns
returns c = contradiction_unmet
