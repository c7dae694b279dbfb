-- What a search knows of the lists that it has found and of the places that it has picked.
use Rattle.std.specs.Prelude.{◌≡◌, ◌≤◌, ◌∷◌, ℕ, List, [], Some, length, slice_get, Contains}
use Rattle.px_terms.specs.declared.atom.Atom.{Atom}
use Rattle.px_proof.specs.declared.shape.Tick.{Tick}
use Rattle.px_table.specs.declared.entry.Move.{Move}
use Rattle.px_table.specs.declared.node.Node.{Node}
use Rattle.px_gaps.specs.Questions.{MeetsLimit}
use Rattle.px_gaps.specs.declared.question.Question.{Question}
use Rattle.px_order.specs.Runs.{Comes, IsDone, Reaches}
use Rattle.px_order.specs.Spaces.{Order}
use Rattle.px_ends.specs.ByValue.{order_by, space_of}
use Rattle.px_ends.specs.Ends.{node_of, NoneSolved}
use Rattle.px_ends.specs.Tasks.{Task, after, AsksAt, goal_question}

-- the order of the task's own weight
abbrev pub order_of : Task → Order Node Move
order_of task = order_by task task.problem.weight

-- the question doesn't meet the limit
abbrev pub IsBelowLimit : Task → Question → Type 0
IsBelowLimit task question = (formula : List Atom) (shapes : List (List Tick)) → ¬ MeetsLimit task.problem question formula shapes

-- The search has come to these lists and picks, none of the nodes is solved, there is room for all, and no question met the limit: none
-- whether a found node is solved, and none of the nodes at the places `asked`.
pub record Searching (task : Task) (found : List (List Move)) (picked asked : List ℕ) : Type 0 where
  pub known : Comes (space_of task) (order_of task) found picked
  pub room : length found ≤ task.nodes
  pub unsolved : NoneSolved task found
  pub tested : (moves : List Move) → Contains found moves → (node_of task moves).stack ≡ []
      → IsBelowLimit task (goal_question task (node_of task moves))
  pub gone_through : (i : ℕ) (p : List Move) (q : Question) → Contains asked i → slice_get found i ≡ Some p
      → AsksAt task (node_of task p) q → IsBelowLimit task q

-- all moves from the place that was picked last were made
pub record IsBetween (task : Task) (found : List (List Move)) (picked : List ℕ) : Type 0 where
  pub searching : Searching task found picked picked
  pub done : IsDone (space_of task) (order_of task) found picked

-- the place was picked last, and these moves from it were made
pub record IsMaking (task : Task) (found : List (List Move)) (place : ℕ) (picked : List ℕ) (tried : List Move) : Type 0 where
  pub searching : Searching task found (place ∷ picked) picked
  pub made : (moves : List Move) (m : Move) → slice_get found place ≡ Some moves → Contains tried m
      → Reaches (space_of task) (order_of task) found (after task (node_of task moves) m)
