use Rattle.px_table.proofs.DecidingLaws.{tables_are_decided}
use Rattle.px_table.proofs.laws.tables_are_decided.Goals as goal

pub returns : goal.returns
returns c = tables_are_decided
