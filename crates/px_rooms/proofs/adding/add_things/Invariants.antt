use Rattle.std.proofs.Common.{◌≤◌, ◌+◌, length, take}
use Rattle.px_rooms.specs.Added.{AreAdded, of_pred}
use Rattle.px_rooms.specs.States.{atoms_from}
use Rattle.px_rooms.proofs.adding.add_things.Given as goal

abbrev pub invariant-loop-place : goal.invariant-loop-place
invariant-loop-place l = record {
  atoms : AreAdded (of_pred l.pred (atoms_from 1 (take l.place l.things))) l.initial.into.atoms l.into.atoms;
  spare : l.initial.into.spare ≤ l.into.spare + length (of_pred l.pred (atoms_from 1 (take l.place l.things)));
}
