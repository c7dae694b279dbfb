use Rattle.std.proofs.Common.{◌≡◌, ◌≤◌, ◌*◌, length, take}
use Rattle.px_rooms.specs.States.{atoms_from}
use Rattle.px_rooms.proofs.fact_counts.count_things.Given as goal

abbrev pub invariant-loop-standing : goal.invariant-loop-standing
invariant-loop-standing l = record {
  count : l.count ≡ length (atoms_from 1 (take l.standing-index l.things));
  few : l.count ≤ 4 * l.standing-index;
}
