use Rattle.std.proofs.Common.{take}
use Rattle.px_rooms.specs.RobotCounts.{AreRobots}
use Rattle.px_rooms.specs.States.{robot_rooms}
use Rattle.px_rooms.proofs.start.robots_of.Given as goal

abbrev pub invariant-loop-thing : goal.invariant-loop-thing
invariant-loop-thing l = AreRobots l.robots (robot_rooms (take l.thing-index l.things))
