-- What the loop of `pairs` in src/series.rt keeps true.
use Rattle.px_lines.proofs.Common.{length, lexemes_in, pair_at}
use Rattle.px_lines.proofs.Walks.{AreReadTo}
use Rattle.px_lines.proofs.series.pairs.Given as goal

abbrev pub invariant-things : goal.invariant-things
invariant-things l = AreReadTo (λ pair. pair) pair_at l.text l.rest l.pairs.items

abbrev pub decreases-things : goal.decreases-things
decreases-things l = length (lexemes_in l.rest)
