-- What the loop of `bindings` in src/series.rt keeps true.
use Rattle.px_lines.proofs.Common.{binding_at, binding_view, length, lexemes_in}
use Rattle.px_lines.proofs.Walks.{AreReadTo}
use Rattle.px_lines.proofs.series.bindings.Given as goal

abbrev pub invariant-things : goal.invariant-things
invariant-things l = AreReadTo binding_view binding_at l.text l.rest l.bindings.items

abbrev pub decreases-things : goal.decreases-things
decreases-things l = length (lexemes_in l.rest)
