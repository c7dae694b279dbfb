use Rattle.std.proofs.Common.{length, take}
use Rattle.px_edit.specs.Keeping.{AreAsked}
use Rattle.px_edit.proofs.keeping.set_asked.Given as goal

abbrev pub invariant-loop-place : goal.invariant-loop-place
invariant-loop-place l = AreAsked (length l.initial.flags) (take l.place l.wanted) l.flags
