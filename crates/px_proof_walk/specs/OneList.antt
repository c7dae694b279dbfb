-- A walk over one list, the empty one.
use Rattle.std.specs.Prelude.{◌≡◌, List, ◌∷◌, length}
use Rattle.std.proofs.Common.{arith, length-append}
use Rattle.px_proof.specs.declared.shape.Tick.{Tick}
use Rattle.px_proof_walk.specs.Order.{IsPrefixClosed}

-- the list is empty
abbrev pub IsStart : List Tick → Type 0
IsStart ticks = length ticks ≡ 0

-- no list that is longer is empty
pub start-shorter : IsPrefixClosed IsStart
start-shorter ticks tick more empty = absurd (omega (arith, empty, length-append ticks (tick ∷ more)))
