use Rattle.px_numbers.proofs.NumberSteps.{IsBuilt}
use Rattle.px_numbers.proofs.numbers.model_of.Given as goal

abbrev pub invariant-loop-number : goal.invariant-loop-number
invariant-loop-number l = IsBuilt l.index l.numbers l.number-index l.model.atoms
