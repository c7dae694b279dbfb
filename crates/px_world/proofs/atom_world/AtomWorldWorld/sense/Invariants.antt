use Rattle.std.proofs.Common.{◌≡◌, ◌+◌, ◌≤◌, take}
use Rattle.px_terms.specs.AtomSets.{atom_set}
use Rattle.px_world.proofs.atom_world.AtomWorldWorld.sense.Given as goal

abbrev pub invariant-loop-atom : goal.invariant-loop-atom
invariant-loop-atom l = record {
  atoms : l.into.atoms ≡ atom_set (take l.atom-index l.atoms);
  spare : l.initial.into.spare ≤ l.into.spare + l.atom-index;
}
