-- What the loop of `one_items` in src/reading.rt keeps true.
use Rattle.px_lines.proofs.Common.{◌≡◌, drop, length, map, ones_front, lexemes_in, Follows}
use Rattle.px_lines.specs.ItemViews.{said_view}
use Rattle.px_lines.proofs.Walks.{in_front}
use Rattle.px_lines.proofs.reading.one_items.Given as goal

abbrev pub invariant-loop-one : goal.invariant-loop-one
invariant-loop-one l = (ones_front l.ones (lexemes_in l.text)
    ≡ in_front (map said_view l.items.items) (ones_front (drop l.one-index l.ones) (lexemes_in l.rest)))
    × (length l.items.items ≡ l.one-index) × Follows l.text l.rest
