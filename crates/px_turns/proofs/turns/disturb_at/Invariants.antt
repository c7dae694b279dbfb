use Rattle.std.proofs.Common.{take}
use Rattle.px_planex.specs.Turns.{edits_at}
use Rattle.px_turns.specs.Turning.{IsDisturbed}
use Rattle.px_turns.proofs.turns.disturb_at.Given as goal

abbrev pub invariant-loop-one : goal.invariant-loop-one
invariant-loop-one g l =
    IsDisturbed g.W.World.rules g.W.World.atoms g.W.World.spare g.W.World.admits g.W.World.leaves
    (edits_at (take l.one-index l.recorded) l.number l.between) l.fn.world l.world
