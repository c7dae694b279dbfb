-- What a task and a weight determine, and what is the same for all weights.
use Rattle.std.specs.Prelude.{◌≡◌, ℕ, List, length}
use Rattle.std.specs.Bool.{Decides}
use Rattle.px_terms.specs.declared.atom.Atom.{Atom}
use Rattle.px_table.specs.declared.entry.Move.{Move}
use Rattle.px_table.specs.declared.node.Node.{Node}
use Rattle.px_gaps.specs.declared.question.MetLimit.{MetLimit}
use Rattle.px_order.specs.OrderLaws.{AllIsFound, NodesStandOnce}
use Rattle.px_order.specs.Runs.{RunsFor}
use Rattle.px_ends.specs.ByValue.{space_of, order_by, IsExhausted, IsFound, IsNodeLimit, IsShapeLimit}
use Rattle.px_ends.specs.Ends as breadth
use Rattle.px_ends.specs.Lacks.{IsMatch, fits}
use Rattle.px_ends.specs.Tasks.{Task}

-- the test of an instance says that some objects for its variables, one for each, make the pattern the atom
abbrev pub FitsIsMatch : Type 0
FitsIsMatch = (pattern atom : Atom) → Decides (fits pattern atom) (IsMatch pattern atom)

-- With each weight a task has one end: each excludes the others (`ExhaustedWithAll` says it of `IsExhausted`), and what the first three say
-- is determined. Of a shape limit the number of shapes is determined. So many steps lead to one state.
pub record ValueEndsAreOne : Type 0 where
  pub runs : (task : Task) (weight n : ℕ) (found lists : List (List Move)) (picked places : List ℕ)
      → RunsFor (space_of task) (order_by task weight) n found picked → RunsFor (space_of task) (order_by task weight) n lists places
      → (found ≡ lists) × (picked ≡ places)
  pub found : (task : Task) (weight : ℕ) (moves others : List Move) → IsFound task weight moves → IsFound task weight others
      → moves ≡ others
  pub node_limit : (task : Task) (weight : ℕ) (nodes more : List Node) (moves others : ℕ) → IsNodeLimit task weight nodes moves
      → IsNodeLimit task weight more others → (nodes ≡ more) × (moves ≡ others)
  pub found_or_node_limit : (task : Task) (weight : ℕ) (moves : List Move) (nodes : List Node) (count : ℕ) → IsFound task weight moves
      → ¬ IsNodeLimit task weight nodes count
  pub shape_limit_or_found : (task : Task) (weight : ℕ) (node : Node) (limit : MetLimit) (moves : List Move)
      → IsShapeLimit task weight node limit → ¬ IsFound task weight moves
  pub shape_limit_or_node_limit : (task : Task) (weight : ℕ) (node : Node) (limit : MetLimit) (nodes : List Node) (count : ℕ)
      → IsShapeLimit task weight node limit → ¬ IsNodeLimit task weight nodes count
  pub shapes : (task : Task) (weight : ℕ) (node : Node) (limit : MetLimit) → IsShapeLimit task weight node limit
      → length limit.shapes ≡ task.problem.shapes

-- with each weight each node stands once among those that are found, and where no place is left, each that moves reach is found
pub record NodesStandOnceWithAll : Type 0 where
  pub once : (task : Task) → NodesStandOnce (space_of task)
  pub all : (task : Task) → AllIsFound (space_of task)

-- where a search is exhausted with one weight, none of the other ends comes with any weight
pub record ExhaustedWithAll : Type 0 where
  pub found : (task : Task) (weight other : ℕ) → IsExhausted task weight → (moves : List Move) → ¬ IsFound task other moves
  pub node_limit : (task : Task) (weight other : ℕ) → IsExhausted task weight → (nodes : List Node) (count : ℕ)
      → ¬ IsNodeLimit task other nodes count
  pub shape_limit : (task : Task) (weight other : ℕ) → IsExhausted task weight → (node : Node) (limit : MetLimit)
      → ¬ IsShapeLimit task other node limit

-- with weight 0 each end is that of the search in breadth
pub record WeightNoneIsBreadth : Type 0 where
  pub found : (task : Task) (moves : List Move) → IsFound task 0 moves → breadth.IsFound task moves
  pub exhausted : (task : Task) → IsExhausted task 0 → breadth.IsExhausted task
  pub node_limit : (task : Task) (nodes : List Node) (moves : ℕ) → IsNodeLimit task 0 nodes moves → breadth.IsNodeLimit task nodes moves
  pub shape_limit : (task : Task) (node : Node) (limit : MetLimit) → IsShapeLimit task 0 node limit → breadth.IsShapeLimit task node limit
