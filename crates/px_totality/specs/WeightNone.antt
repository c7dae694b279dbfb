-- With weight 0 a search ends as the search in breadth does.
use Rattle.std.specs.Prelude.{◌↔◌, ℕ, List}
use Rattle.px_table.specs.declared.entry.Move.{Move}
use Rattle.px_table.specs.declared.node.Node.{Node}
use Rattle.px_gaps.specs.declared.question.MetLimit.{MetLimit}
use Rattle.px_ends.specs.ByValue.{IsExhausted, IsFound, IsNodeLimit, IsShapeLimit}
use Rattle.px_ends.specs.Ends as breadth
use Rattle.px_ends.specs.Tasks.{Task}

-- Each end with weight 0 is an end in breadth, and the other way round. (Of the limit of shapes the other way is a double negation, as in
-- `SearchesEnd`: in breadth such an end has no list of the nodes before it.)
pub record WeightNoneIsExactlyBreadth : Type 0 where
  pub found : (task : Task) (moves : List Move) → IsFound task 0 moves ↔ breadth.IsFound task moves
  pub exhausted : (task : Task) → IsExhausted task 0 ↔ breadth.IsExhausted task
  pub node_limit : (task : Task) (nodes : List Node) (moves : ℕ) → IsNodeLimit task 0 nodes moves ↔ breadth.IsNodeLimit task nodes moves
  pub shape_limit : (task : Task) (node : Node) (limit : MetLimit) → IsShapeLimit task 0 node limit → breadth.IsShapeLimit task node limit
  pub shape_limit_back : (task : Task) (node : Node) (limit : MetLimit) → breadth.IsShapeLimit task node limit
      → ¬ ¬ IsShapeLimit task 0 node limit
