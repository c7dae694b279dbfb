-- Proof of the goal that `trees_are_one` of src/laws.rt leaves open.
use Rattle.px_search.proofs.TreeLaws.{trees_are_one}
use Rattle.px_search.proofs.laws.trees_are_one.Goals as goal

pub returns : goal.returns
returns c = trees_are_one
