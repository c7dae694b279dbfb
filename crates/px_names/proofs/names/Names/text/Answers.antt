use Rattle.px_names.specs.NameLaws.{number_of_name}
use Rattle.std.proofs.Common.{rules}
use Rattle.px_names.proofs.names.Names.text.Goals as goal

pub returns-clause-number : goal.returns-clause-number
returns-clause-number c = number_of_name _ _ _ c.list.ensures.names.distinct (search rules)
