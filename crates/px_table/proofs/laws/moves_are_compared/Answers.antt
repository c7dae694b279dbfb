use Rattle.px_table.specs.EntryLaws.{moves_are_compared}
use Rattle.px_table.proofs.laws.moves_are_compared.Goals as goal

pub returns : goal.returns
returns c = moves_are_compared
