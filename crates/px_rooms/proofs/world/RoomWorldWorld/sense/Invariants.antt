use Rattle.std.proofs.Common.{◌≡◌, ◌≤◌, ◌+◌, length}
use Rattle.px_terms.specs.AtomSets.{atom_set}
use Rattle.px_rooms.specs.States.{all_atoms}
use Rattle.px_rooms.proofs.Sensing.{below}
use Rattle.px_rooms.proofs.world.RoomWorldWorld.sense.Given as goal

abbrev pub invariant-loop-pred : goal.invariant-loop-pred
invariant-loop-pred l = record {
  atoms : l.into.atoms ≡ atom_set (below l.pred (all_atoms l.self));
  spare : l.initial.into.spare ≤ l.into.spare + length (below l.pred (all_atoms l.self));
  few : l.pred ≤ 8;
}
