use Rattle.std.proofs.lemmas.List.Filters.{dedup_is}
use Rattle.px_question.specs.GapOrder.{computed_eq}
use Rattle.px_question.proofs.GapOrderLaws.{computed_eq-decides}
use Rattle.px_prover.proofs.Ordered.{gap_lists-ascend, ordered-members}
use Rattle.px_prover.proofs.listing.ordered.Goals as goal

pub returns-clause-order : goal.returns-clause-order
returns-clause-order c =
    gap_lists-ascend c.sort_unstable.new.self.items c.dedup.new.self.items c.sort_unstable.ensures.sorted
    (dedup_is computed_eq c.sort_unstable.new.self.items c.dedup.new.self.items c.dedup.ensures.filtered)

pub returns-clause-members : goal.returns-clause-members
returns-clause-members c =
    ordered-members computed_eq computed_eq-decides c.args.lists.items c.sort_unstable.new.self.items c.dedup.new.self.items
    c.sort_unstable.ensures.permutation (dedup_is computed_eq c.sort_unstable.new.self.items c.dedup.new.self.items
    c.dedup.ensures.filtered)
