use Rattle.px_names.proofs.ListLemmas.{position-map, list_any-map}
use Rattle.px_names.specs.NameLaws.{name_of_number}
use Rattle.std.proofs.Common.{rules}
use Rattle.std.specs.Str.{bytes_eq}
use Rattle.std.specs.String.{string_bytes}
use Rattle.px_names.proofs.list.NameList.find.Goals as goal

pub returns-clause-number : goal.returns-clause-number
returns-clause-number c = rw (← c.self.view_is, position-map (bytes_eq c.args.name.now) string_bytes c.self.inside.set.keys) (search rules)

pub returns-clause-found : goal.returns-clause-found
returns-clause-found c = rw (← c.self.view_is, list_any-map) (search rules)

pub returns-clause-named : goal.returns-clause-named
returns-clause-named c = name_of_number _ _ _ (returns-clause-number c) (returns-clause-found c)
