-- How a search ends that picks its nodes by values: by the number of moves, and what the node lacks as many times as the weight says.
-- Weight 0 is the order of `Ends`.
use Rattle.std.specs.Prelude.{◌≡◌, ℕ, List, [], map}
use Rattle.px_terms.specs.declared.atom.Atom.{Atom}
use Rattle.px_proof.specs.declared.shape.Tick.{Tick}
use Rattle.px_table.specs.declared.entry.Move.{Move}
use Rattle.px_table.specs.declared.node.Node.{Node}
use Rattle.px_gaps.specs.Questions.{IsMetLimit, MeetsLimit}
use Rattle.px_gaps.specs.declared.question.MetLimit.{MetLimit}
use Rattle.px_gaps.specs.declared.question.Question.{Question}
use Rattle.px_order.specs.Spaces.{Space, Order}
use Rattle.px_order.specs.Ends as order_ends
use Rattle.px_ends.specs.Ends.{node_of}
use Rattle.px_ends.specs.Lacks.{needs}
use Rattle.px_ends.specs.Order.{move_cmp}
use Rattle.px_ends.specs.Tasks.{Task, initial_node, IsAllowed, IsSolved, after, AsksAt, goal_question}

-- the nodes, and the moves between them
abbrev pub space_of : Task → Space Node Move
space_of task = record { start = initial_node task; allows = IsAllowed task; after = after task }

-- a node's moves are tried in the order of their entries, an application first
abbrev pub order_by : Task → ℕ → Order Node Move
order_by task weight = record { compare = move_cmp; estimate = needs task; weight = weight }

-- What is to be reached, for how many nodes there is room, and what is asked: at a node with an empty stack whether the goal has an
-- answer, when it is found; and about moves, when it is picked.
abbrev pub aim_of : Task → order_ends.Aim Node Question
aim_of task = record {
  solved = IsSolved task;
  limit = task.nodes;
  asks = AsksAt task;
  tries = λ node question. (node.stack ≡ []) × (question ≡ goal_question task node);
  meets = λ question. (formula : List Atom) × (shapes : List (List Tick)) × MeetsLimit task.problem question formula shapes;
}

-- a question that is asked at the node which the moves reach
abbrev pub IsAsked : Task → ℕ → List Move → Question → Type 0
IsAsked task weight moves question = order_ends.IsAsked (space_of task) (order_by task weight) (aim_of task) moves question

-- ---- the four ends, each with a weight

-- the moves lead to the first solved node that is found, and there is room for it
abbrev pub IsFound : Task → ℕ → List Move → Type 0
IsFound task weight moves = order_ends.IsFound (space_of task) (order_by task weight) (aim_of task) moves

-- no node is left to be picked, none is solved, and there is room for all
abbrev pub IsExhausted : Task → ℕ → Type 0
IsExhausted task weight = order_ends.IsExhausted (space_of task) (order_by task weight) (aim_of task)

-- These are the nodes that are found first, as many as there is room for. None of them is solved, and this number of moves reaches the
-- next that is found.
pub record IsNodeLimit (task : Task) (weight : ℕ) (nodes : List Node) (moves : ℕ) : Type 0 where
  pub earlier : List (List Move)
  pub limit : order_ends.IsNodeLimit (space_of task) (order_by task weight) (aim_of task) earlier moves
  pub nodes_are : nodes ≡ map (node_of task) earlier

-- the question is asked at the node, and meets the shape limit
pub record IsShapeLimit (task : Task) (weight : ℕ) (node : Node) (limit : MetLimit) : Type 0 where
  pub moves : List Move
  pub node_is : node ≡ node_of task moves
  pub asked : IsAsked task weight moves limit.question
  pub met : IsMetLimit task.problem limit
