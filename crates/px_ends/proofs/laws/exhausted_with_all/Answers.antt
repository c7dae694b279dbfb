use Rattle.px_ends.proofs.ByValueLaws.{exhausted_with_all}
use Rattle.px_ends.proofs.laws.exhausted_with_all.Goals as goal

pub returns : goal.returns
returns c = exhausted_with_all
