use Rattle.std.proofs.Common.{length, ap, ◌∙◌}
use Rattle.px_rooms.specs.States.{atoms_from}
use Rattle.px_rooms.proofs.Counting.{counted-all}
use Rattle.px_rooms.proofs.world.RoomWorldRegrow.atom_count.Goals as goal

pub returns : goal.returns
returns c = counted-all _ c.args.self.now c.count_placed.result c.count_things.result c.self.view_is c.known.ensures.state
    (c.count_placed.ensures.count 0 c.self.inside.robot_room)
    (c.count_things.ensures.count ∙ ap (λ xs. length (atoms_from 1 xs)) c.deref.ensures.value)
