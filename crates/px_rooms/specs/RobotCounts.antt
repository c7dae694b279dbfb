-- How many robots a list of things has.
use Rattle.std.specs.Prelude.{◌≡◌, ◌≤◌, ℕ, List, [], ◌∷◌, length}
use Rattle.px_rooms.specs.declared.robots.Robots.{Robots}
use Rattle.px_rooms.specs.declared.robots.Robots.TheVariants as robots

-- the rooms are those of no robot, of one in that room, or of several
abbrev pub AreRobots : Robots → List ℕ → Type 0
AreRobots robots.None rooms = rooms ≡ []
AreRobots (robots.One room) rooms = rooms ≡ room ∷ []
AreRobots robots.Several rooms = 2 ≤ length rooms
