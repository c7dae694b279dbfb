-- What the loop of `numbers` in src/lists.rt keeps true.
use Rattle.px_lines.proofs.Common.{length, lexemes_in, number_in}
use Rattle.px_lines.proofs.Walks.{AreReadTo}
use Rattle.px_lines.proofs.lists.numbers.Given as goal

abbrev pub invariant-things : goal.invariant-things
invariant-things l = AreReadTo (λ number. number) number_in l.text l.rest l.numbers.items

abbrev pub decreases-things : goal.decreases-things
decreases-things l = length (lexemes_in l.rest)
