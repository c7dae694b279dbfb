use Rattle.std.proofs.lemmas.List.Filters.{dedup_is}
use Rattle.px_table.specs.EntryOrder.{entry_eq}
use Rattle.px_diff.proofs.WholeLemmas.{entries-ascend, entries-members}
use Rattle.px_diff.proofs.pushes.order_entries.Goals as goal

pub returns-clause-members : goal.returns-clause-members
returns-clause-members c = λ entry.
    let members =
    entries-members c.args.found.now.items c.sort_unstable.new.self.items c.dedup.new.self.items c.sort_unstable.ensures.permutation
    (dedup_is entry_eq c.sort_unstable.new.self.items c.dedup.new.self.items c.dedup.ensures.filtered) entry in
    (members.1, members.0)

pub returns-clause-ordered : goal.returns-clause-ordered
returns-clause-ordered c =
    entries-ascend c.sort_unstable.new.self.items c.dedup.new.self.items c.sort_unstable.ensures.sorted
    (dedup_is entry_eq c.sort_unstable.new.self.items c.dedup.new.self.items c.dedup.ensures.filtered)
