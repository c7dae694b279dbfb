use Rattle.px_gaps.proofs.AddableLaws.{addable-alike}
use Rattle.px_gaps.proofs.laws.addable_alike.Goals as goal

pub returns : goal.returns
returns c = addable-alike
