use Rattle.px_table.specs.MarkLaws.{marks_are_compared}
use Rattle.px_table.proofs.laws.marks_are_compared.Goals as goal

pub returns : goal.returns
returns c = marks_are_compared
