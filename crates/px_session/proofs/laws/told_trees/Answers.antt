use Rattle.px_session.proofs.ToldTrees.{told_trees}
use Rattle.px_session.proofs.laws.told_trees.Goals as goal

pub returns : goal.returns
returns c = told_trees
