use Rattle.px_general.proofs.Touching.{general_facts}
use Rattle.px_general.proofs.laws.worked_general.Goals as goal

pub returns : goal.returns
returns c = general_facts
