use Rattle.px_terms.specs.Operators.{adds}
use Rattle.std.specs.Prelude.{Contains}
use Rattle.px_gaps.specs.Closings.{OneOf}
use Rattle.px_diff.proofs.FirstLemmas.{covers-permuted}
use Rattle.px_diff.proofs.firsts.ordered_matches.Goals as goal

pub returns : goal.returns
returns c =
    covers-permuted c.args.problem.now (λ full. OneOf c.args.wanted.now (Contains (adds c.args.problem.now full)))
    c.in_ok-matches.matches.items c.sort_unstable.new.self.items c.sort_unstable.ensures.permutation c.in_ok-matches.ensures
