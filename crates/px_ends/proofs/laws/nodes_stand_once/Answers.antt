use Rattle.px_ends.proofs.ByValueLaws.{nodes_stand_once_with_all}
use Rattle.px_ends.proofs.laws.nodes_stand_once.Goals as goal

pub returns : goal.returns
returns c = nodes_stand_once_with_all
