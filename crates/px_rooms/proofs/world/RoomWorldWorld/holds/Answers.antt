use Rattle.px_rooms.proofs.Worlds.{rendering-ascending, rendering-ground}
use Rattle.px_rooms.proofs.world.RoomWorldWorld.holds.Goals as goal

pub returns-clause-set : goal.returns-clause-set
returns-clause-set c = rendering-ascending c.args.self.now

pub returns-clause-all_ground : goal.returns-clause-all_ground
returns-clause-all_ground c = rendering-ground c.args.self.now
