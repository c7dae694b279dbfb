-- Proof of the goal that `tree_for` of src/trees.rt leaves open.
use Rattle.std.proofs.Common.{refl}
use Rattle.px_support.specs.Asking.{task_for}
use Rattle.px_search.proofs.trees.tree_for.Goals as goal

pub tree-tree-requires-clause-explored : goal.tree-tree-requires-clause-explored
tree-tree-requires-clause-explored c = c.new-explored.ensures (task_for c.args.asked.now) refl c.requires.never_limited
