use Rattle.px_table.specs.EntryLaws.{entries_are_ordered}
use Rattle.px_table.proofs.laws.entries_are_ordered.Goals as goal

pub returns : goal.returns
returns c = entries_are_ordered
