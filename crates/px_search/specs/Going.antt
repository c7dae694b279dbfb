-- What going through a node gives.
use Rattle.std.specs.Prelude.{◌≡◌, ◌↔◌, ◌⊎◌, Bool, true, List, All, AllPairs, Contains}
use Rattle.std.specs.declared.cmp.Ordering.TheVariants.{Less}
use Rattle.px_terms.specs.declared.atom.Atom.{Atom}
use Rattle.px_proof.specs.declared.shape.Tick.{Tick}
use Rattle.px_table.specs.declared.entry.Move.{Move}
use Rattle.px_table.specs.declared.node.Node.{Node}
use Rattle.px_entries.specs.Entries.{IsEntry}
use Rattle.px_gaps.specs.Questions.{IsMetLimit, MeetsLimit}
use Rattle.px_gaps.specs.declared.question.MetLimit.{MetLimit}
use Rattle.px_gaps.specs.declared.question.Question.{Question}
use Rattle.px_gaps.specs.declared.known.Tried.TheVariants.{Unanswered}
use Rattle.px_numbers.specs.declared.nodes.NodeKey.{NodeKey}
use Rattle.px_numbers.specs.Numbers.{Kept, IsKeyOf}
use Rattle.px_search.specs.Asking.{IsTriedAt}
use Rattle.px_search.specs.declared.successors.Successors.{Successors}
use Rattle.px_search.specs.declared.step.Step.{Step}
use Rattle.px_ends.specs.Order.{move_cmp}
use Rattle.px_search.specs.Steps.{AreStepsOf}
use Rattle.px_ends.specs.Tasks.{Task, IsAllowed, AsksAt}

-- the question is one of the node, and meets the limit
pub record LimitsNode (task : Task) (node : Node) (limit : MetLimit) : Type 0 where
  pub asked : AsksAt task node limit.question
  pub met : IsMetLimit task.problem limit

-- the moves of a node, in order
pub record AreMovesOf (task : Task) (node : Node) (moves : List Move) : Type 0 where
  pub all : (m : Move) → IsAllowed task node m ↔ Contains moves m
  pub ordered : AllPairs (λ m n. move_cmp m n ≡ Less) moves

-- no question of the node meets the limit
abbrev pub IsUnlimitedAt : Task → Node → Type 0
IsUnlimitedAt task node = (question : Question) → AsksAt task node question → (formula : List Atom) (shapes : List (List Tick))
    → ¬ MeetsLimit task.problem question formula shapes

-- the steps are the moves of the node, in order, and none of its questions meets the limit
pub record IsGoneOn (task : Task) (kept : Kept) (node : Node) (steps : List Step) : Type 0 where
  pub moves : List Move
  pub are : AreMovesOf task node moves
  pub steps_are : AreStepsOf kept steps moves
  pub unlimited : IsUnlimitedAt task node

-- the moves are the first of the node's, in order: each of the others comes after all of them
pub record AreFirstOf (task : Task) (node : Node) (moves : List Move) : Type 0 where
  pub allowed : (m : Move) → Contains moves m → IsAllowed task node m
  pub ordered : AllPairs (λ m n. move_cmp m n ≡ Less) moves
  pub others : (m : Move) → IsAllowed task node m → Contains moves m ⊎ ((n : Move) → Contains moves n → move_cmp n m ≡ Less)

-- the steps are the first moves of the node, in order, all of them where `is_all` is true, and none of its questions meets the limit
pub record AreFirstSuccessors (task : Task) (kept : Kept) (node : Node) (steps : List Step) (is_all : Bool) : Type 0 where
  pub moves : List Move
  pub are : AreFirstOf task node moves
  pub every : is_all ≡ true → (m : Move) → IsAllowed task node m → Contains moves m
  pub steps_are : AreStepsOf kept steps moves
  pub unlimited : IsUnlimitedAt task node

-- ---- by the number of the node

-- the pair is a node with entries on its stack, or with an empty one and a goal without an answer
pub record IsAskedAt (task : Task) (kept : Kept) (key : NodeKey) : Type 0 where
  pub node : Node
  pub stands : IsKeyOf kept key node
  pub entries : All (IsEntry task.problem task.tables) node.stack
  pub tried : IsTriedAt task node Unanswered

-- these are the first moves of the node that the pair was
abbrev pub BeginsAt : Task → Kept → Kept → NodeKey → Successors → Type 0
BeginsAt task old new key successors =
    (node : Node) → IsKeyOf old key node → AreFirstSuccessors task new node successors.steps.items successors.is_all

-- the question is one of the node of the pair, and meets the limit
abbrev pub LimitsAt : Task → Kept → NodeKey → MetLimit → Type 0
LimitsAt task kept key limit = (node : Node) → IsKeyOf kept key node → LimitsNode task node limit
