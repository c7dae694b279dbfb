use Rattle.std.proofs.Common.{◌∙◌}
use Rattle.std.proofs.lemmas.List.Filters.{dedup_is}
use Rattle.px_terms.specs.Order.{atom_eq}
use Rattle.px_entries.proofs.JoinSteps.{union-ascends, union-members}
use Rattle.px_entries.proofs.joining.union_of.Goals as goal

pub returns-clause-order : goal.returns-clause-order
returns-clause-order c = union-ascends c.sort_unstable.new.self.items c.from_vec.result c.sort_unstable.ensures.sorted
    (c.from_vec.ensures ∙ dedup_is atom_eq c.sort_unstable.new.self.items c.dedup.new.self.items c.dedup.ensures.filtered)

pub returns-clause-members : goal.returns-clause-members
returns-clause-members c =
    union-members c.args.first.now c.args.second.now c.in_ok-union.union.items c.sort_unstable.new.self.items c.from_vec.result
    c.in_ok-union.ensures c.sort_unstable.ensures.permutation
    (c.from_vec.ensures ∙ dedup_is atom_eq c.sort_unstable.new.self.items c.dedup.new.self.items c.dedup.ensures.filtered)
