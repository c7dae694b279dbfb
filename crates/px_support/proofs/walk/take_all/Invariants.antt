use Rattle.px_support.specs.Asking.{task_for}
use Rattle.px_support.proofs.GoingLaws.{IsGoing}
use Rattle.px_support.proofs.walk.take_all.Given as goal

abbrev pub invariant-loop-m : goal.invariant-loop-m
invariant-loop-m l = IsGoing (task_for l.asked) l.moves l.m-index l.walk
