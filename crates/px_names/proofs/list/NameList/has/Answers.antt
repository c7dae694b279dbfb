use Rattle.px_names.specs.NameLaws.{has_name-tells}
use Rattle.px_names.proofs.ListLemmas.{list_any-map}
use Rattle.std.proofs.Common.{rules}
use Rattle.px_names.proofs.list.NameList.has.Goals as goal

pub returns-clause-test : goal.returns-clause-test
returns-clause-test c = rw (← c.self.view_is, list_any-map) (search rules)

pub returns-clause-member : goal.returns-clause-member
returns-clause-member c = has_name-tells c.args.name.now c.args.self.now c.contains.result (returns-clause-test c)
