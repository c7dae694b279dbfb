use Rattle.std.proofs.Common.{◌≡◌, ◌+◌, ◌≤◌, ◌++◌, List, length, reverse, slice_get, Some}
use Rattle.px_table.specs.declared.entry.Move.{Move}
use Rattle.px_search.specs.Steps.{Trace}
use Rattle.px_search.proofs.origins.moves_to.Given as goal

abbrev pub invariant-loop-here : goal.invariant-loop-here
invariant-loop-here l = record {
  within : l.here ≤ length l.origins;
  few : length l.moves.items + l.here ≤ l.place;
  trace : (found : List (List Move)) → Trace l.numbers l.origins found
      → (prefix : List Move) × (slice_get found l.here ≡ Some prefix) × (slice_get found l.place ≡ Some (prefix ++ reverse l.moves.items));
}

abbrev pub decreases-loop-here : goal.decreases-loop-here
decreases-loop-here l = l.here
