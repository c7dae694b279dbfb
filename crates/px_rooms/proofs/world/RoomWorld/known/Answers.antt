use Rattle.px_rooms.proofs.Worlds.{world-state}
use Rattle.px_rooms.proofs.world.RoomWorld.known.Goals as goal

pub returns-clause-state : goal.returns-clause-state
returns-clause-state c = (world-state _ _ _ c.self.view_is c.self.invariant).is_state

pub returns-clause-few : goal.returns-clause-few
returns-clause-few c = (world-state _ _ _ c.self.view_is c.self.invariant).few
