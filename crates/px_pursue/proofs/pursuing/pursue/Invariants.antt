use Rattle.std.proofs.Common.{◌≡◌, ◌+◌, length}
use Rattle.px_turns.specs.Told.{AdmitSame}
use Rattle.px_turns.specs.Vain.{count_from}
use Rattle.px_pursue.proofs.VainSearches.{VainSoFar}
use Rattle.px_pursue.proofs.pursuing.pursue.Given as goal

abbrev pub invariant-searching : goal.invariant-searching
invariant-searching g l =
    VainSoFar g.W.World.leaves l.problem l.tables l.goal l.variable_count l.recorded (g.W.World.atoms l.fn.world) l.searches l.turns.items
    (g.W.World.atoms l.world)
    × (l.facts.atoms ≡ g.W.World.atoms l.world) × (g.W.World.rules l.world ≡ g.W.World.rules l.fn.world)
    × AdmitSame (g.W.World.admits l.fn.world) (g.W.World.admits l.world)

abbrev pub decreases-searching : goal.decreases-searching
decreases-searching g l = count_from (length l.turns.items + 1) l.recorded
