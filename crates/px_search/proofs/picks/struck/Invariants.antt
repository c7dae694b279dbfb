use Rattle.std.proofs.Common.{List, take}
use Rattle.px_table.specs.declared.entry.Entry.{Entry}
use Rattle.px_table.specs.declared.entry.Move.{Move}
use Rattle.px_numbers.specs.Numbers.{IsStackAt}
use Rattle.px_search.specs.Steps.{AreStepsOf, unstruck}
use Rattle.px_search.proofs.picks.struck.Given as goal

abbrev pub invariant-loop-place : goal.invariant-loop-place
invariant-loop-place l =
    (entries : List Entry) (moves : List Move) → IsStackAt l.numbers l.stack entries → AreStepsOf l.numbers l.steps moves
    → AreStepsOf l.numbers l.left.items (unstruck entries (take l.place moves))
