use Rattle.px_ends.proofs.ByValueLaws.{value_ends_are_one}
use Rattle.px_ends.proofs.laws.value_ends_are_one.Goals as goal

pub returns : goal.returns
returns c = value_ends_are_one
