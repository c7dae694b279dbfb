use Rattle.std.proofs.Common.{take}
use Rattle.px_turns.specs.Turning.{IsDisturbed}
use Rattle.px_turns.proofs.turns.disturb_by.Given as goal

abbrev pub invariant-loop-edit : goal.invariant-loop-edit
invariant-loop-edit g l =
    IsDisturbed g.W.World.rules g.W.World.atoms g.W.World.spare g.W.World.admits g.W.World.leaves (take l.edit-index l.edits) l.fn.world
    l.world
