-- The facts of a building are a set of atoms over its objects and predicates.
use Rattle.std.specs.Prelude.{All}
use Rattle.px_terms.specs.AtomSets.{IsAtomSet}
use Rattle.px_terms.specs.Validity.{IsAtomOf}
use Rattle.px_rooms.specs.States.{IsRoomState, RoomState, building_rules, rendering}

-- in every state
abbrev pub FactsAreAtoms : Type 0
FactsAreAtoms = (state : RoomState) → IsRoomState state → IsAtomSet (rendering state)
    × All (IsAtomOf (building_rules state) 0) (rendering state)
