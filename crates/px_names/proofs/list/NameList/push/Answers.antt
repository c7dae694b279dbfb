use Rattle.px_names.proofs.ListLemmas.{names-insert_key}
use Rattle.std.specs.String.{string_bytes}
use Rattle.px_names.proofs.list.NameList.push.Goals as goal

pub returns-clause-added : goal.returns-clause-added
returns-clause-added c = rw (← c.self.view_is)
    (names-insert_key string_bytes c.args.name.now c.self.inside.set.keys c.insert.new.self.keys c.in_ok-from_str.field-0
    c.in_ok-from_str.ensures.ok (rw c.self.view_is c.requires) c.in_ok-insert.ensures.keys)
