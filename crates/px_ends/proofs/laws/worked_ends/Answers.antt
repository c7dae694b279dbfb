use Rattle.px_ends.proofs.Operators.{end_facts}
use Rattle.px_ends.proofs.laws.worked_ends.Goals as goal

pub returns : goal.returns
returns c = end_facts
