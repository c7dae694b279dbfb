use Rattle.px_support.proofs.MacroGoing.{IsWithin}
use Rattle.px_support.proofs.macros.take_steps.Given as goal

abbrev pub invariant-loop-place : goal.invariant-loop-place
invariant-loop-place l = IsWithin l.asked.problem.now l.learned l.fn.walk l.place l.within
