-- What the loop of `room_edits` in src/series.rt keeps true.
use Rattle.px_lines.proofs.Common.{length, lexemes_in, room_edit_at, room_edit_view}
use Rattle.px_lines.proofs.Walks.{AreReadTo}
use Rattle.px_lines.proofs.series.room_edits.Given as goal

abbrev pub invariant-things : goal.invariant-things
invariant-things l = AreReadTo room_edit_view room_edit_at l.text l.rest l.edits.items

abbrev pub decreases-things : goal.decreases-things
decreases-things l = length (lexemes_in l.rest)
