-- What the loop of `proofs` in src/parts.rt keeps true.
use Rattle.px_lines.proofs.Common.{length, lexemes_in, part_at, part_view}
use Rattle.px_lines.proofs.Walks.{AreReadTo}
use Rattle.px_lines.proofs.parts.proofs.Given as goal

abbrev pub invariant-things : goal.invariant-things
invariant-things l = AreReadTo part_view part_at l.text l.rest l.parts.items

abbrev pub decreases-things : goal.decreases-things
decreases-things l = length (lexemes_in l.rest)
