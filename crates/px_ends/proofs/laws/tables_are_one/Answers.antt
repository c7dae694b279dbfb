use Rattle.px_ends.proofs.MadeOne.{tables_are_one}
use Rattle.px_ends.proofs.laws.tables_are_one.Goals as goal

pub returns : goal.returns
returns c = tables_are_one
