use Rattle.std.proofs.lemmas.List.Filters.{dedup_is}
use Rattle.px_prover.specs.contracts.pattern.GapPatternPartialEq.TheImpl as pattern_equality
use Rattle.px_prover.proofs.Ordered.{ordered-members}
use Rattle.px_prover.proofs.PatternOrder.{pattern_eq-decides}
use Rattle.px_prover.proofs.patterns.unite.Goals as goal

pub returns : goal.returns
returns c =
    ordered-members (pattern_equality.ghosts).eq pattern_eq-decides c.args.patterns.now.items c.sort_unstable.new.self.items
    c.dedup.new.self.items c.sort_unstable.ensures.permutation
    (dedup_is (pattern_equality.ghosts).eq c.sort_unstable.new.self.items c.dedup.new.self.items c.dedup.ensures.filtered)
