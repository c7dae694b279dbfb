-- How a search ends. Nodes come in the order of their least lists of moves: fewer moves first, and then the lesser entry
-- at the first different push. A node is given by its least list.
use Rattle.std.specs.Prelude.{◌≡◌, ◌⊎◌, ◌<◌, ◌≤◌, ℕ, List, [], ◌∷◌, ◌++◌, length, map, Contains}
use Rattle.px_terms.specs.declared.atom.Atom.{Atom}
use Rattle.px_proof.specs.declared.shape.Tick.{Tick}
use Rattle.px_table.specs.declared.entry.Move.{Move}
use Rattle.px_table.specs.declared.node.Node.{Node}
use Rattle.px_gaps.specs.Questions.{IsMetLimit, MeetsLimit}
use Rattle.px_gaps.specs.declared.question.MetLimit.{MetLimit}
use Rattle.px_gaps.specs.declared.question.Question.{Question}
use Rattle.px_ends.specs.Moves.{CanMake, reached, IsLeast, IsBeginning, IsAll}
use Rattle.px_ends.specs.Order.{IsBefore}
use Rattle.px_ends.specs.Tasks.{Task, initial_node, IsSolved, IsAllowed, after, AsksAt, goal_question}

-- each of the moves is allowed where it is made, from the initial node on
abbrev pub AreMoves : Task → List Move → Type 0
AreMoves task moves = CanMake (IsAllowed task) (after task) (initial_node task) moves

-- the node that the moves reach
abbrev pub node_of : Task → List Move → Node
node_of task moves = reached (IsAllowed task) (after task) (initial_node task) moves

-- the least list of moves to the node that it reaches; each node that moves reach has one
abbrev pub IsLeastList : Task → List Move → Type 0
IsLeastList task moves = IsLeast (IsAllowed task) (after task) IsBefore (initial_node task) moves

-- the list of all nodes that moves reach begins with these, each given by its least list
abbrev pub BeginsWith : Task → List (List Move) → Type 0
BeginsWith task lists = IsBeginning (IsAllowed task) (after task) IsBefore (initial_node task) lists

-- these are all nodes that moves reach
abbrev pub IsWhole : Task → List (List Move) → Type 0
IsWhole task lists = IsAll (IsAllowed task) (after task) IsBefore (initial_node task) lists

abbrev pub NoneSolved : Task → List (List Move) → Type 0
NoneSolved task lists = (moves : List Move) → Contains lists moves → ¬ IsSolved task (node_of task moves)

-- the first node that is solved, or that comes after as many as may be kept, and the nodes before it
pub record IsStop (task : Task) (earlier : List (List Move)) (last : List Move) : Type 0 where
  pub beginning : BeginsWith task (earlier ++ last ∷ [])
  pub unsolved : NoneSolved task earlier
  pub room : length earlier ≤ task.nodes
  pub stops : IsSolved task (node_of task last) ⊎ (length earlier ≡ task.nodes)

-- ---- which questions are asked

-- the last of the second moves is made from a node that doesn't stand before the one that the first moves reach
abbrev pub IsMadeFrom : List Move → List Move → Type 0
IsMadeFrom moves last = (parent : List Move) × (m : Move) × (last ≡ parent ++ m ∷ []) × (¬ IsBefore parent moves)

-- the search goes through the node: it stands no later than the one from which the stop is reached, if there is a stop
pub record IsGoneThrough (task : Task) (moves : List Move) : Type 0 where
  pub least : IsLeastList task moves
  pub early : (earlier : List (List Move)) (last : List Move) → IsStop task earlier last → IsMadeFrom moves last

-- the search tries the goal at the node: its stack is empty, and it stands before the stop or is the stop and may be kept
pub record IsTested (task : Task) (moves : List Move) : Type 0 where
  pub least : IsLeastList task moves
  pub empty : (node_of task moves).stack ≡ []
  pub early : (earlier : List (List Move)) (last : List Move) → IsStop task earlier last → IsBefore moves last
      ⊎ ((moves ≡ last) × (length earlier < task.nodes))

-- the question is asked at the node that the moves reach
abbrev pub IsAsked : Task → List Move → Question → Type 0
IsAsked task moves question =
    (IsGoneThrough task moves × AsksAt task (node_of task moves) question)
    ⊎ (IsTested task moves × (question ≡ goal_question task (node_of task moves)))

-- no question that is asked meets the shape limit
abbrev pub IsUnlimited : Task → Type 0
IsUnlimited task =
    (moves : List Move) (question : Question) (formula : List Atom) (shapes : List (List Tick)) → IsAsked task moves question
    → ¬ MeetsLimit task.problem question formula shapes

-- ---- the four ends

-- the moves lead to the first solved node, which stands among as many nodes as may be kept
pub record IsFound (task : Task) (moves : List Move) : Type 0 where
  pub unlimited : IsUnlimited task
  pub earlier : List (List Move)
  pub stop : IsStop task earlier moves
  pub room : length earlier < task.nodes

-- no list of moves reaches a solved node, and all nodes that moves reach may be kept
pub record IsExhausted (task : Task) : Type 0 where
  pub unlimited : IsUnlimited task
  pub lists : List (List Move)
  pub whole : IsWhole task lists
  pub unsolved : (moves : List Move) → AreMoves task moves → ¬ IsSolved task (node_of task moves)
  pub room : length lists ≤ task.nodes

-- These are the first nodes, as many as may be kept, in order. None of them is solved, and this number of moves reaches a further one.
pub record IsNodeLimit (task : Task) (nodes : List Node) (moves : ℕ) : Type 0 where
  pub unlimited : IsUnlimited task
  pub earlier : List (List Move)
  pub last : List Move
  pub stop : IsStop task earlier last
  pub full : length earlier ≡ task.nodes
  pub nodes_are : nodes ≡ map (node_of task) earlier
  pub moves_are : moves ≡ length last

-- the question is asked at the node, and meets the shape limit
pub record IsShapeLimit (task : Task) (node : Node) (limit : MetLimit) : Type 0 where
  pub moves : List Move
  pub node_is : node ≡ node_of task moves
  pub asked : IsAsked task moves limit.question
  pub met : IsMetLimit task.problem limit
