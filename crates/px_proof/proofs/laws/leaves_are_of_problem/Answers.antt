use Rattle.px_proof.specs.LeafRange.{leaves_are_of_problem}
use Rattle.px_proof.proofs.laws.leaves_are_of_problem.Goals as goal

pub returns : goal.returns
returns c = leaves_are_of_problem
