-- What the loop of `copied_axioms` in src/problem.rt keeps true.
use Rattle.px_so_far.proofs.Common.{◌≡◌, take}
use Rattle.px_so_far.proofs.problem.copied_axioms.Given as goal

abbrev pub invariant-loop-number : goal.invariant-loop-number
invariant-loop-number l = l.copy ≡ take l.number l.axioms
