-- What is known of moves that a search found, in whatever order.
use Rattle.std.specs.Prelude.{◌<◌, ℕ, List, length}
use Rattle.px_table.specs.declared.entry.Move.{Move}
use Rattle.px_ends.specs.ByValue.{IsFound}
use Rattle.px_ends.specs.Ends.{AreMoves}
use Rattle.px_ends.specs.Tasks.{Task, initial_node}
use Rattle.px_support.specs.Asking.{AreTakeable}

-- the moves can be made, are fewer than the nodes that may be kept, and the prover finds what is needed to take them
pub record AreFoundMoves (task : Task) (moves : List Move) : Type 0 where
  pub can : AreMoves task moves
  pub few : length moves < task.nodes
  pub takeable : AreTakeable task (initial_node task) moves

-- the moves that a search with a weight found are such
abbrev pub FoundWithWeight : Type 0
FoundWithWeight = (task : Task) (weight : ℕ) (moves : List Move) → IsFound task weight moves → AreFoundMoves task moves
