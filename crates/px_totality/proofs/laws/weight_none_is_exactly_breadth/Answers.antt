-- Proof of the goal that `weight_none_is_exactly_breadth` of src/laws.rt leaves open.
use Rattle.px_totality.proofs.WeightNone.{weight_none_is_exactly_breadth}
use Rattle.px_totality.proofs.laws.weight_none_is_exactly_breadth.Goals as goal

pub returns : goal.returns
returns c = weight_none_is_exactly_breadth
