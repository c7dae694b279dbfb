use Rattle.std.proofs.lemmas.List.Filters.{dedup_is}
use Rattle.px_terms.specs.Order.{instance_eq}
use Rattle.px_terms.specs.OrderLaws.{instance_eq-decides}
use Rattle.px_diff.proofs.FirstOrder.{instances-ascend}
use Rattle.px_gaps.proofs.Ordered.{sorted_members}
use Rattle.px_diff.proofs.first_instances.order_instances.Goals as goal

pub returns-clause-members : goal.returns-clause-members
returns-clause-members c = λ inst.
    let same =
    sorted_members instance_eq instance_eq-decides c.args.found.now.items c.sort_unstable.new.self.items c.dedup.new.self.items
    c.sort_unstable.ensures.permutation (dedup_is instance_eq c.sort_unstable.new.self.items c.dedup.new.self.items
    c.dedup.ensures.filtered) inst in
    (same.1, same.0)

pub returns-clause-ordered : goal.returns-clause-ordered
returns-clause-ordered c =
    instances-ascend c.sort_unstable.new.self.items c.dedup.new.self.items c.sort_unstable.ensures.sorted
    (dedup_is instance_eq c.sort_unstable.new.self.items c.dedup.new.self.items c.dedup.ensures.filtered)
