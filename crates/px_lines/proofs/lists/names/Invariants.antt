-- What the loop of `names` in src/lists.rt keeps true.
use Rattle.px_lines.proofs.Common.{length, lexemes_in, name_in, text_of}
use Rattle.px_lines.proofs.Walks.{AreReadTo}
use Rattle.px_lines.proofs.lists.names.Given as goal

abbrev pub invariant-things : goal.invariant-things
invariant-things l = AreReadTo text_of name_in l.text l.rest l.names.items

abbrev pub decreases-things : goal.decreases-things
decreases-things l = length (lexemes_in l.rest)
