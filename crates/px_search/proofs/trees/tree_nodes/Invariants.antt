-- What the loop of `tree_nodes` in src/trees.rt keeps true.
use Rattle.std.proofs.Common.{◌≡◌, ◌≤◌, List, length}
use Rattle.px_table.specs.declared.entry.Move.{Move}
use Rattle.px_support.specs.Asking.{task_for}
use Rattle.px_search.specs.Estimating.{AreCounted}
use Rattle.px_search.specs.Looping.{AreFound}
use Rattle.px_ends.specs.Trees.{TellsNodes}
use Rattle.px_search.proofs.trees.tree_nodes.Given as goal

abbrev pub invariant-loop-place : goal.invariant-loop-place
invariant-loop-place l = record {
  within : l.place ≤ l.count;
  counted : AreCounted (task_for l.asked) l.explored.cache.numbers l.estimates;
  long : length l.nodes.items ≡ l.place;
  told : (found : List (List Move)) → AreFound (task_for l.asked) l.explored found → TellsNodes (task_for l.asked) found l.nodes.items;
}
