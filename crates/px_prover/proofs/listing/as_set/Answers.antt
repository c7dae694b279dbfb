use Rattle.std.proofs.lemmas.List.Filters.{dedup_is}
use Rattle.px_terms.specs.Order.{atom_eq}
use Rattle.px_terms.specs.OrderLaws.{atom_eq-decides}
use Rattle.px_prover.proofs.Ordered.{atoms-ascend, ordered-members}
use Rattle.px_prover.proofs.listing.as_set.Goals as goal

pub returns-clause-order : goal.returns-clause-order
returns-clause-order c =
    atoms-ascend c.sort_unstable.new.self.items c.dedup.new.self.items c.sort_unstable.ensures.sorted
    (dedup_is atom_eq c.sort_unstable.new.self.items c.dedup.new.self.items c.dedup.ensures.filtered)

pub returns-clause-members : goal.returns-clause-members
returns-clause-members c =
    ordered-members atom_eq atom_eq-decides c.args.atoms.items c.sort_unstable.new.self.items c.dedup.new.self.items
    c.sort_unstable.ensures.permutation (dedup_is atom_eq c.sort_unstable.new.self.items c.dedup.new.self.items
    c.dedup.ensures.filtered)
