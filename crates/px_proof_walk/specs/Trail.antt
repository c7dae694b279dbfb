-- The lists that a walk has visited, each kept as it differs from the one before.
use Rattle.std.specs.Prelude.{◌≡◌, ℕ, ◌<◌, ◌-◌, Option, Some, None, List, [], ◌∷◌, ◌++◌, length, slice_index_or, take}
use Rattle.std.specs.List.{AllZip}
use Rattle.px_proof.specs.declared.shape.Tick.{Tick}
use Rattle.px_proof_walk.specs.declared.visit.Visit.{Visit}

-- the tick, if there is one
abbrev pub tick_or_none : Option Tick → List Tick
tick_or_none None = []
tick_or_none (Some tick) = tick ∷ []

-- the visit says how many ticks come before the last one, which the last one is, and how many places are open
pub record IsVisit (ticks : List Tick) (places : ℕ) (visit : Visit) : Type 0 where
  pub kept : visit.kept ≡ length ticks - 1
  pub ends : ticks ≡ take visit.kept ticks ++ tick_or_none visit.last
  pub left : visit.places ≡ places

-- all ticks of the second list but its last one begin the first list, too
abbrev pub BranchesOff : List Tick → List Tick → Type 0
BranchesOff before ticks = take (length ticks - 1) before ≡ take (length ticks - 1) ticks

-- the visits are those of the lists, and each list branches off the one before it, the first one off the empty list
pub record AreVisits (places : List Tick → ℕ) (seen : List (List Tick)) (trail : List Visit) : Type 0 where
  pub each : AllZip (λ ticks visit. IsVisit ticks (places ticks) visit) seen trail
  pub branches : (k : ℕ) → k < length seen → BranchesOff (slice_index_or ([] ∷ seen) k []) (slice_index_or seen k [])

-- the list that is visited after another
abbrev pub moved_to : List Tick → Visit → List Tick
moved_to ticks visit = take visit.kept ticks ++ tick_or_none visit.last
