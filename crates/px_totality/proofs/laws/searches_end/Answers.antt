use Rattle.px_totality.proofs.SomeEnd.{searches_end}
use Rattle.px_totality.proofs.laws.searches_end.Goals as goal

pub returns : goal.returns
returns c = searches_end
