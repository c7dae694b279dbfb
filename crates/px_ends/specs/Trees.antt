-- What a search tree tells: the lists of moves that a search finds, each by the last move and the list before it, and how the search ends.
use Rattle.std.specs.Prelude.{◌≡◌, ◌<◌, ◌⊎◌, ℕ, Option, None, Some, List, [], ◌∷◌, ◌++◌, length, slice_get, take}
use Rattle.px_terms.specs.declared.atom.Atom.{Atom}
use Rattle.px_proof.specs.declared.shape.Tick.{Tick}
use Rattle.px_table.specs.declared.entry.Entry.{Entry}
use Rattle.px_table.specs.declared.entry.Entry.TheVariants.{Op, Macro}
use Rattle.px_table.specs.declared.entry.Move.{Move}
use Rattle.px_table.specs.declared.entry.Move.TheVariants.{Apply, Push}
use Rattle.px_table.specs.declared.node.Node.{Node}
use Rattle.px_entries.specs.Entries.{effect_of}
use Rattle.px_gaps.specs.Questions.{IsMetLimit, MeetsLimit}
use Rattle.px_gaps.specs.declared.question.MetLimit.{MetLimit}
use Rattle.px_gaps.specs.declared.question.Question.{Question}
use Rattle.px_order.specs.Ends as order_ends
use Rattle.px_ends.specs.ByValue.{IsExhausted, IsFound, aim_of, order_by, space_of}
use Rattle.px_ends.specs.Ends.{node_of}
use Rattle.px_ends.specs.Lacks.{needs}
use Rattle.px_ends.specs.Tasks.{Task, AsksAt, goal_question}
use Rattle.px_tree.specs.declared.nodes.MoveKind.{MoveKind}
use Rattle.px_tree.specs.declared.nodes.MoveKind.TheVariants as kinds
use Rattle.px_tree.specs.declared.nodes.Tree.{Tree}
use Rattle.px_tree.specs.declared.nodes.TreeEnd.{TreeEnd}
use Rattle.px_tree.specs.declared.nodes.TreeEnd.TheVariants.{Solved, Exhausted, More, ShapeLimit}
use Rattle.px_tree.specs.declared.nodes.TreeMove.{TreeMove}
use Rattle.px_tree.specs.declared.nodes.TreeNode.{TreeNode}
use Rattle.px_tree.specs.declared.nodes.TreeOrigin.{TreeOrigin}

-- ---- a node, and how it is found

-- the learned table of which the entry has the first steps
abbrev pub table_in : Entry → Option ℕ
table_in (Op inst) = None
table_in (Macro number prefix sigma) = Some number

-- the entry as a tree tells it, with what is done with it
abbrev pub entry_told : Task → MoveKind → Entry → TreeMove
entry_told task kind entry = record { kind = kind; table = table_in entry; steps = effect_of task.tables entry }

-- what the move does that is made at the node: it pushes its entry, or applies the top one
abbrev pub TellsMove : Task → Node → Move → TreeMove → Type 0
TellsMove task node (Push entry) told = told ≡ entry_told task kinds.Push entry
TellsMove task node Apply told =
    (entry : Entry) × (below : List Entry) × (node.stack ≡ entry ∷ below) × (told ≡ entry_told task kinds.Apply entry)

-- the list of moves is empty, or goes on by its last move from the one that stands at the place of the parent
abbrev pub TellsOrigin : Task → List (List Move) → List Move → Option TreeOrigin → Type 0
TellsOrigin task earlier moves None = moves ≡ []
TellsOrigin task earlier moves (Some origin) =
    (front : List Move) × (m : Move) × (moves ≡ front ++ m ∷ []) × (slice_get earlier origin.parent ≡ Some front)
    × TellsMove task (node_of task front) m origin.last

-- this is the node that the moves reach, which are found after these lists
pub record TellsNode (task : Task) (earlier : List (List Move)) (moves : List Move) (node : TreeNode) : Type 0 where
  pub origin : TellsOrigin task earlier moves node.origin
  pub needs_are : node.needs ≡ needs task (node_of task moves)

-- these are the nodes of the first of the found lists
abbrev pub TellsNodes : Task → List (List Move) → List TreeNode → Type 0
TellsNodes task found nodes = (place : ℕ) (node : TreeNode) (moves : List Move) → slice_get nodes place ≡ Some node
    → slice_get found place ≡ Some moves → TellsNode task (take place found) moves node

-- ---- the end

-- the question is asked at the node that the moves reach, at a time when these are the found lists
abbrev pub IsAskedAmong : Task → ℕ → List (List Move) → List Move → Question → Type 0
IsAskedAmong task weight found moves question =
    ((gone : order_ends.IsGoneThrough (space_of task) (order_by task weight) (aim_of task) moves) × (gone.found ≡ found)
    × AsksAt task (node_of task moves) question)
    ⊎ ((tested : order_ends.IsTested (space_of task) (order_by task weight) (aim_of task) moves) × (tested.earlier ++ moves ∷ [] ≡ found)
    × ((node_of task moves).stack ≡ []) × (question ≡ goal_question task (node_of task moves)))

-- These are the found lists when a question first meets the shape limit, which is this one: none meets it that is asked while fewer are
-- found.
pub record IsFirstLimit (task : Task) (weight : ℕ) (found : List (List Move)) (limit : MetLimit) : Type 0 where
  pub moves : List Move
  pub asked : IsAskedAmong task weight found moves limit.question
  pub met : IsMetLimit task.problem limit
  pub first : (fewer : List (List Move)) (others : List Move) (other : Question) → length fewer < length found
      → IsAskedAmong task weight fewer others other → (atoms : List Atom) (lists : List (List Tick))
      → ¬ MeetsLimit task.problem other atoms lists

-- The search ends so, with these found lists: the last of them is solved; none is left to go on from; this number of moves leads to a
-- further node, for which there is no room; or a question meets the shape limit, by this number of shapes.
abbrev pub EndsTree : Task → ℕ → List (List Move) → TreeEnd → Type 0
EndsTree task weight found Solved =
    (moves : List Move) × (end : IsFound task weight moves) × (found ≡ end.earlier ++ moves ∷ [])
EndsTree task weight found Exhausted = (end : IsExhausted task weight) × (found ≡ end.lists)
EndsTree task weight found (More moves) = order_ends.IsNodeLimit (space_of task) (order_by task weight) (aim_of task) found moves
EndsTree task weight found (ShapeLimit number) =
    (limit : MetLimit) × IsFirstLimit task weight found limit × (number ≡ length limit.shapes)

-- ---- the tree

-- the tree has the nodes that the search finds before it ends, in the order in which they are found
pub record IsTree (task : Task) (weight : ℕ) (tree : Tree) : Type 0 where
  pub found : List (List Move)
  pub count : length tree.nodes ≡ length found
  pub nodes : TellsNodes task found tree.nodes
  pub end : EndsTree task weight found tree.end

-- a search has one tree
abbrev pub TreesAreOne : Type 0
TreesAreOne = (task : Task) (weight : ℕ) (tree other : Tree) → IsTree task weight tree → IsTree task weight other → tree ≡ other
