-- The moves that a search with a weight found can be taken, and are few.
use Rattle.std.specs.Prelude.{◌<◌, ℕ, List, [], ◌∷◌, ◌++◌, length}
use Rattle.std.proofs.Common.{refl, inl, inr, arith}
use Rattle.std.proofs.lemmas.List.Elements.{Contains-push}
use Rattle.px_table.specs.declared.entry.Move.{Move}
use Rattle.px_order.specs.Prefixes.{prefix-gone}
use Rattle.px_order.specs.Places.{at_end}
use Rattle.px_order.specs.RunLaws.{made}
use Rattle.px_order.specs.RunOrigins.{few-moves}
use Rattle.px_ends.specs.ByValue.{space_of, order_by, aim_of, IsFound}
use Rattle.px_ends.specs.Ends.{AreMoves, node_of}
use Rattle.px_ends.specs.Tasks.{Task, initial_node, IsSolved}
use Rattle.px_support.specs.Asking.{AreTakeable}
use Rattle.px_support.specs.FoundMoves.{FoundWithWeight}
use Rattle.px_support.proofs.Taking.{takeable}

module _ (task : Task) (weight : ℕ) (moves : List Move) (found : IsFound task weight moves) where
  can : AreMoves task moves
  can = made (space_of task) (order_by task weight) found.stop.begins.1.0 (found.earlier ++ moves ∷ []) found.stop.begins.0
      found.stop.begins.1.1 moves (Contains-push found.earlier moves)

  few : length moves < task.nodes
  few =
      let short = few-moves (space_of task) (order_by task weight) found.stop.begins.1.0 (found.earlier ++ moves ∷ []) found.stop.begins.0
      found.stop.begins.1.1 (length found.earlier) moves (at_end found.earlier moves) in
      omega (arith, short, found.room)

  solved : IsSolved task (node_of task moves)
  solved = elim found.stop.stops [
    | inl is ↦ is
    | inr full ↦ absurd (omega (arith, full, found.room))
  ]

  found-takeable : AreTakeable task (initial_node task) moves
  found-takeable = takeable task moves can solved
      (λ p m rest is question formula shapes asks met. found.unlimited p question
      (inl (prefix-gone (space_of task) (order_by task weight) (aim_of task) found.earlier moves found.stop p m rest is, inl asks))
      (formula, shapes, met))
      (λ formula shapes met. found.unlimited moves _
      (inr (
        record { earlier = found.earlier; begins = found.stop.begins; unsolved = found.stop.unsolved; room = found.room },
        (solved.0, refl),
      )) (formula, shapes, met))

pub found_with_weight : FoundWithWeight
found_with_weight task weight moves found = record {
  can = can task weight moves found;
  few = few task weight moves found;
  takeable = found-takeable task weight moves found;
}
