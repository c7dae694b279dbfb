use Rattle.px_support.proofs.FoundByValue.{found_with_weight}
use Rattle.px_support.proofs.laws.found_with_weight.Goals as goal

pub returns : goal.returns
returns c = found_with_weight
