-- What the loop of `atoms` in src/series.rt keeps true.
use Rattle.px_lines.proofs.Common.{atom_at, length, lexemes_in, signed_view}
use Rattle.px_lines.proofs.Walks.{AreReadTo}
use Rattle.px_lines.proofs.series.atoms.Given as goal

abbrev pub invariant-things : goal.invariant-things
invariant-things l = AreReadTo signed_view atom_at l.text l.rest l.atoms.items

abbrev pub decreases-things : goal.decreases-things
decreases-things l = length (lexemes_in l.rest)
