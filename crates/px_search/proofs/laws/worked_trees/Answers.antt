-- Proof of the goal that `worked_trees` of src/laws.rt leaves open.
use Rattle.px_search.proofs.WorkedTrees.{tree_facts}
use Rattle.px_search.proofs.laws.worked_trees.Goals as goal

pub returns : goal.returns
returns c = tree_facts
