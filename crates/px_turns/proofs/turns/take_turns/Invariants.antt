use Rattle.std.proofs.Common.{◌≡◌, ◌+◌, ◌++◌, ◌-◌, ◌≤◌, List, length, map}
use Rattle.std.specs.Prelude.{vec_capacity}
use Rattle.px_printer.specs.declared.turn.Turn.{Turn}
use Rattle.px_turns.specs.Told.{turn_told}
use Rattle.px_turns.proofs.Underway.{Underway}
use Rattle.px_turns.proofs.turns.take_turns.Given as goal

abbrev pub invariant-taking : goal.invariant-taking
invariant-taking g l =
    (made : List Turn) × (l.turns.items ≡ l.fn.turns.items ++ made)
    × Underway g.W.World.rules g.W.World.atoms g.W.World.spare g.W.World.admits g.W.World.leaves l.fn.planex l.recorded
    (length l.fn.turns.items + 1) l.most l.fn.world (map turn_told made) l.planex l.world
    × (length l.fn.turns.items + l.most ≤ vec_capacity l.turns)

abbrev pub decreases-taking : goal.decreases-taking
decreases-taking g l = length l.fn.turns.items + l.most - length l.turns.items
