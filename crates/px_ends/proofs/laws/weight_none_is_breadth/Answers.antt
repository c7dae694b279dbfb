use Rattle.px_ends.proofs.ByValueLaws.{weight_none_is_breadth}
use Rattle.px_ends.proofs.laws.weight_none_is_breadth.Goals as goal

pub returns : goal.returns
returns c = weight_none_is_breadth
