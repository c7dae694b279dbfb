-- Shapes: which choice was made at each place, without the objects; and their order.
use Rattle.std.specs.Prelude.{◌≡◌, ◌⊎◌, ℕ, ◌<◌, List, [], ◌∷◌, ◌++◌}
use Rattle.px_proof.specs.declared.shape.Tick.{Tick}
use Rattle.px_proof.specs.declared.shape.Tick.TheVariants.{Fact, Anc, Step, Gap, Open}
use Rattle.px_proof.specs.Derivation.{Derivation, Derivations, fact, ancestor, step, gap, open_place, none, also}

-- the ticks of a derivation, in preorder
abbrev mutual
  pub ticks : Derivation → List Tick
  ticks (fact leaf) = Fact leaf.index ∷ []
  ticks (ancestor i) = Anc i ∷ []
  ticks (step clause theta place parts) = Step clause place ∷ ticks_of parts
  ticks (gap atom) = Gap ∷ []
  ticks open_place = Open ∷ []

  pub ticks_of : Derivations → List Tick
  ticks_of none = []
  ticks_of (also p ps) = ticks p ++ ticks_of ps

-- open, then facts by place, ancestors from the nearest, steps by axiom and place, then a gap
abbrev pub tick_kind : Tick → ℕ
tick_kind Open = 0
tick_kind (Fact i) = 1
tick_kind (Anc i) = 2
tick_kind (Step clause place) = 3
tick_kind Gap = 4

abbrev pub tick_number : Tick → ℕ
tick_number Open = 0
tick_number (Fact i) = i
tick_number (Anc i) = i
tick_number (Step clause place) = clause
tick_number Gap = 0

abbrev pub tick_place : Tick → ℕ
tick_place Open = 0
tick_place (Fact i) = 0
tick_place (Anc i) = 0
tick_place (Step clause place) = place
tick_place Gap = 0

abbrev pub TickBefore : Tick → Tick → Type 0
TickBefore a b =
    (tick_kind a < tick_kind b)
    ⊎ ((tick_kind a ≡ tick_kind b) × (tick_number a < tick_number b))
    ⊎ ((tick_kind a ≡ tick_kind b) × (tick_number a ≡ tick_number b) × (tick_place a < tick_place b))

-- shapes are compared at their first different tick
abbrev pub ShapeBefore : List Tick → List Tick → Type 0
ShapeBefore [] [] = ⊥
ShapeBefore [] (b ∷ rest) = Unit {0}
ShapeBefore (a ∷ more) [] = ⊥
ShapeBefore (a ∷ more) (b ∷ rest) = TickBefore a b ⊎ ((a ≡ b) × ShapeBefore more rest)

abbrev pub OnlyOpen : List Tick → Type 0
OnlyOpen [] = Unit {0}
OnlyOpen (Open ∷ shape) = OnlyOpen shape
OnlyOpen (Fact i ∷ shape) = ⊥
OnlyOpen (Anc i ∷ shape) = ⊥
OnlyOpen (Step clause place ∷ shape) = ⊥
OnlyOpen (Gap ∷ shape) = ⊥

-- some place is open, and so is each place after the first open one
abbrev pub IsUnfinished : List Tick → Type 0
IsUnfinished [] = ⊥
IsUnfinished (Open ∷ shape) = OnlyOpen shape
IsUnfinished (Fact i ∷ shape) = IsUnfinished shape
IsUnfinished (Anc i ∷ shape) = IsUnfinished shape
IsUnfinished (Step clause place ∷ shape) = IsUnfinished shape
IsUnfinished (Gap ∷ shape) = IsUnfinished shape
