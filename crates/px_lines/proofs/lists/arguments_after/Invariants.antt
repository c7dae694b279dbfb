-- What the loop of `arguments_after` in src/lists.rt keeps true.
use Rattle.px_lines.proofs.Common.{◌≡◌, map, length, items_after, argument_of, lexemes_in, argument_view, Follows}
use Rattle.px_lines.proofs.Walks.{in_front}
use Rattle.px_lines.proofs.lists.arguments_after.Given as goal

abbrev pub invariant-loop-argument : goal.invariant-loop-argument
invariant-loop-argument l = (items_after argument_of (lexemes_in l.text)
    ≡ in_front (map argument_view l.arguments.items) (items_after argument_of (lexemes_in l.rest))) × Follows l.text l.rest

abbrev pub decreases-loop-argument : goal.decreases-loop-argument
decreases-loop-argument l = length (lexemes_in l.rest)
