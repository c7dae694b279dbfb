use Rattle.std.proofs.Common.{◌≡◌, ◌++◌, map, take}
use Rattle.px_session.specs.Sessions.{of_atoms, of_rooms}
use Rattle.px_session.proofs.commands.edits_of.Given as goal

abbrev pub invariant-loop-atom : goal.invariant-loop-atom
invariant-loop-atom l = l.made.items ≡ map of_atoms (take l.atom-index l.atoms)

abbrev pub invariant-loop-room : goal.invariant-loop-room
invariant-loop-room l = l.made.items ≡ map of_atoms l.fn.atoms ++ map of_rooms (take l.room-index l.rooms)
