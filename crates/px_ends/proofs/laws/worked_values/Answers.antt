use Rattle.px_ends.proofs.WorkedByValue.{value_facts}
use Rattle.px_ends.proofs.laws.worked_values.Goals as goal

pub returns : goal.returns
returns c = value_facts
