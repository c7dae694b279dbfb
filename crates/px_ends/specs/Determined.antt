-- What a task determines.
use Rattle.std.specs.Prelude.{◌≡◌, ◌↔◌, ◌⊎◌, ◌<◌, ℕ, List, [], ◌∷◌, ◌++◌, length}
use Rattle.px_table.specs.declared.entry.Move.{Move}
use Rattle.px_table.specs.declared.node.Node.{Node}
use Rattle.px_table.specs.declared.table.Table.{Table}
use Rattle.px_gaps.specs.declared.question.MetLimit.{MetLimit}
use Rattle.px_ends.specs.Ends.{IsExhausted, IsFound, IsGoneThrough, IsLeastList, IsMadeFrom, IsNodeLimit, IsShapeLimit, IsStop, IsTested, node_of}
use Rattle.px_ends.specs.Made.{IsTableOfMoves}
use Rattle.px_ends.specs.Order.{IsBefore}
use Rattle.px_ends.specs.Tasks.{Task}

-- A task has one end: each of the four excludes the others, and what the first three say is determined. Of a shape limit the number of
-- shapes is determined.
pub record EndsAreOne : Type 0 where
  pub found : (task : Task) (moves others : List Move) → IsFound task moves → IsFound task others → moves ≡ others
  pub node_limit : (task : Task) (nodes more : List Node) (moves others : ℕ) → IsNodeLimit task nodes moves → IsNodeLimit task more others
      → (nodes ≡ more) × (moves ≡ others)
  pub found_or_exhausted : (task : Task) (moves : List Move) → IsFound task moves → ¬ IsExhausted task
  pub found_or_node_limit : (task : Task) (moves : List Move) (nodes : List Node) (count : ℕ) → IsFound task moves
      → ¬ IsNodeLimit task nodes count
  pub node_limit_or_exhausted : (task : Task) (nodes : List Node) (count : ℕ) → IsNodeLimit task nodes count → ¬ IsExhausted task
  pub shape_limit_or_found : (task : Task) (node : Node) (limit : MetLimit) (moves : List Move) → IsShapeLimit task node limit
      → ¬ IsFound task moves
  pub shape_limit_or_exhausted : (task : Task) (node : Node) (limit : MetLimit) → IsShapeLimit task node limit → ¬ IsExhausted task
  pub shape_limit_or_node_limit : (task : Task) (node : Node) (limit : MetLimit) (nodes : List Node) (count : ℕ)
      → IsShapeLimit task node limit → ¬ IsNodeLimit task nodes count
  pub shapes : (task : Task) (node : Node) (limit : MetLimit) → IsShapeLimit task node limit → length limit.shapes ≡ task.problem.shapes

-- Which questions are asked, by the first node that is solved or that there is no room for. There is at most one such node. All questions
-- of the nodes up to and including the one from which it is reached, which is one of the nodes in order, are asked; and the goal is tried
-- before it, and at it if there is room for it. Where there is no such node, all questions are asked.
pub record AskedByStop : Type 0 where
  pub one : (task : Task) (earlier others : List (List Move)) (last next : List Move) → IsStop task earlier last → IsStop task others next
      → (earlier ≡ others) × (last ≡ next)
  pub gone_through : (task : Task) (earlier : List (List Move)) (last moves : List Move) → IsStop task earlier last
      → IsGoneThrough task moves ↔ (IsLeastList task moves × IsMadeFrom moves last)
  pub parent : (task : Task) (moves : List Move) (m : Move) → IsLeastList task (moves ++ m ∷ []) → IsLeastList task moves
  pub tested : (task : Task) (earlier : List (List Move)) (last moves : List Move) → IsStop task earlier last
      → IsTested task moves ↔ (IsLeastList task moves × ((node_of task moves).stack ≡ [])
      × (IsBefore moves last ⊎ ((moves ≡ last) × (length earlier < task.nodes))))
  pub no_stop : (task : Task) (moves : List Move) → ((earlier : List (List Move)) (last : List Move) → ¬ IsStop task earlier last)
      → (IsGoneThrough task moves ↔ IsLeastList task moves) ×
      (IsTested task moves ↔ (IsLeastList task moves × ((node_of task moves).stack ≡ [])))

-- a list of moves has at most one table, proofs included
abbrev pub TablesAreOne : Type 0
TablesAreOne = (task : Task) (moves : List Move) (one other : Table) → IsTableOfMoves task moves one → IsTableOfMoves task moves other
    → one ≡ other
