use Rattle.std.proofs.Common.{take}
use Rattle.px_diff.specs.Reordered.{AreParted}
use Rattle.px_diff.proofs.rest.narrow_first.Given as goal

abbrev pub invariant-loop-atom : goal.invariant-loop-atom
invariant-loop-atom l = AreParted (take l.atom-index l.atoms) l.narrow.items l.wide.items
