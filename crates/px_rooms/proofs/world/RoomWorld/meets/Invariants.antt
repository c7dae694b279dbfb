use Rattle.std.specs.Prelude.{Contains}
use Rattle.px_terms.specs.Operators.{atoms_of}
use Rattle.px_rooms.specs.States.{rendering}
use Rattle.px_rooms.proofs.Meeting.{HaveBelow}
use Rattle.px_rooms.proofs.world.RoomWorld.meets.Given as goal

abbrev pub invariant-loop-k : goal.invariant-loop-k
invariant-loop-k l = HaveBelow (Contains (rendering l.fn.self)) (atoms_of l.schema.pre l.fn.inst) l.k
