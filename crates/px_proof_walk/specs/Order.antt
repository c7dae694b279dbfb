-- Walking over lists of ticks in their order.
use Rattle.std.specs.Prelude.{◌≡◌, ◌⊎◌, Bool, true, false, Option, Some, None, List, [], ◌∷◌, ◌++◌}
use Rattle.px_proof.specs.declared.shape.Tick.{Tick}
use Rattle.px_proof.specs.Shapes.{TickBefore, ShapeBefore}

-- the tick stands after the last one that was tried, where there is one
abbrev pub IsAfter : Option Tick → Tick → Type 0
IsAfter None tick = Unit {0}
IsAfter (Some last) tick = TickBefore last tick

-- what is left to be visited from a place: longer lists by a tick after the last, or lists that differ by a later tick before
abbrev pub Remains : List Tick → Option Tick → List Tick → Type 0
Remains [] last [] = ⊥
Remains [] last (tick ∷ more) = IsAfter last tick
Remains (t ∷ ticks) last [] = ⊥
Remains (t ∷ ticks) last (tick ∷ more) = TickBefore t tick ⊎ ((t ≡ tick) × Remains ticks last more)

-- the least list with the property after this one
pub record IsNext (P : List Tick → Type 0) (ticks next : List Tick) : Type 0 where
  pub holds : P next
  pub later : ShapeBefore ticks next
  pub least : (other : List Tick) → P other → ShapeBefore ticks other → (next ≡ other) ⊎ ShapeBefore next other

abbrev pub NoneAfter : (List Tick → Type 0) → List Tick → Type 0
NoneAfter P ticks = (other : List Tick) → P other → ¬ ShapeBefore ticks other

-- a list has the property only where each shorter one has it
abbrev pub IsPrefixClosed : (List Tick → Type 0) → Type 0
IsPrefixClosed P = (ticks : List Tick) (tick : Tick) (more : List Tick) → P (ticks ++ tick ∷ more) → P (ticks ++ tick ∷ [])

-- the first open place is closed by the least possible tick after the last one that was tried; or no tick is possible, and nothing changes
pub record TriesAfter (P : List Tick → Type 0) (old new : List Tick) (last : Option Tick) (found : Bool) : Type 0 where
  pub least : found ≡ true → (tick : Tick) × (new ≡ old ++ tick ∷ []) × IsAfter last tick × P new
      × ((u : Tick) → IsAfter last u → P (old ++ u ∷ []) → (tick ≡ u) ⊎ TickBefore tick u)
  pub no_more : found ≡ false → (new ≡ old) × ((u : Tick) → IsAfter last u → ¬ P (old ++ u ∷ []))

-- the walk has left the part behind a place, which began with the last tick that was tried there
abbrev pub IsAtTick : List Tick → List Tick → Option Tick → Type 0
IsAtTick start ticks None = start ≡ ticks
IsAtTick start ticks (Some last) = (tail : List Tick) × (start ≡ ticks ++ last ∷ tail)

pub record IsOnTheWay (P : List Tick → Type 0) (start ticks : List Tick) (last : Option Tick) : Type 0 where
  pub place : IsAtTick start ticks last
  pub rest : (other : List Tick) → P other → ShapeBefore start other → Remains ticks last other
