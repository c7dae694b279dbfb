use Rattle.std.proofs.Common.{◌+◌, ◌-◌, ◌≤◌, List, drop, length}
use Rattle.px_table.specs.declared.entry.Entry.{Entry}
use Rattle.px_search.specs.Offers.{ArePushes}
use Rattle.px_search.proofs.JoinLaws.{Joining}
use Rattle.px_search.proofs.merging.merged.Given as goal

abbrev pub invariant-loop-here : goal.invariant-loop-here
invariant-loop-here l = record {
  here_in : l.here ≤ length l.first;
  there_in : l.there ≤ length l.second;
  joining : (firsts seconds : List Entry) → ArePushes l.numbers firsts l.first → ArePushes l.numbers seconds l.second
      → Joining l.numbers firsts seconds (drop l.here l.first) (drop l.there l.second) l.merged.items;
}

abbrev pub decreases-loop-here : goal.decreases-loop-here
decreases-loop-here l = length l.first + length l.second - (l.here + l.there)
