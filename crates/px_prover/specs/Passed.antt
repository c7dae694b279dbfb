-- Ticks that are tried one after the other at a place.
use Rattle.std.specs.Prelude.{◌≡◌, ◌⊎◌, ◌≤◌, Option, Some, None}
use Rattle.px_base.specs.Bounds.{u32_max}
use Rattle.px_proof.specs.Shapes.{TickBefore, tick_number, tick_place}
use Rattle.px_proof.specs.declared.shape.Tick.{Tick}

-- its numbers have 32 bits
abbrev pub IsSmall : Tick → Type 0
IsSmall tick = (tick_number tick ≤ u32_max) × (tick_place tick ≤ u32_max)

abbrev pub AreSmall : Option Tick → Type 0
AreSmall None = Unit {0}
AreSmall (Some tick) = IsSmall tick

-- it is the last one that was tried, or stands before it
abbrev pub IsUpTo : Option Tick → Tick → Type 0
IsUpTo None tick = ⊥
IsUpTo (Some last) tick = (last ≡ tick) ⊎ TickBefore tick last
