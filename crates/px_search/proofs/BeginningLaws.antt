-- All moves of a node are the first of them.
use Rattle.std.proofs.Common.{Bool, List, inl}
use Rattle.px_table.specs.declared.entry.Move.{Move}
use Rattle.px_table.specs.declared.node.Node.{Node}
use Rattle.px_numbers.specs.Numbers.{Kept}
use Rattle.px_ends.specs.Tasks.{Task}
use Rattle.px_search.specs.declared.step.Step.{Step}
use Rattle.px_search.specs.Going.{AreFirstOf, AreMovesOf, AreFirstSuccessors, IsGoneOn}

module _ (task : Task) where
  pub moves-are_first : (node : Node) (moves : List Move) → AreMovesOf task node moves → AreFirstOf task node moves
  moves-are_first node moves are =
      record { allowed = λ m has. (are.all m).1 has; ordered = are.ordered; others = λ m may. inl ((are.all m).0 may) }

  abbrev pub all-successors : (kept : Kept) (node : Node) (steps : List Step) (is_all : Bool) → IsGoneOn task kept node steps
      → AreFirstSuccessors task kept node steps is_all
  all-successors kept node steps is_all gone = record {
    moves = gone.moves;
    are = moves-are_first node gone.moves gone.are;
    every = λ _ m may. (gone.are.all m).0 may;
    steps_are = gone.steps_are;
    unlimited = gone.unlimited;
  }
