-- Flags of steps, by their numbers: which are needed.
use Rattle.std.specs.Prelude.{◌≡◌, ◌↔◌, ◌≤◌, ◌<◌, ℕ, Bool, true, false, List, length, slice_index_or, All, AllPairs, Contains}
use Rattle.std.specs.List.Sorted.{IsStrictlyIncreasing}
use Rattle.px_table.specs.declared.mark.Mark.{Mark}

-- the flag of that number is set
abbrev pub HasFlag : List Bool → ℕ → Type 0
HasFlag flags k = slice_index_or flags k false ≡ true

-- marks in the order of their rows, each with its column before its row, which has a place among so many
pub record AreMarksBelow (count : ℕ) (marks : List Mark) : Type 0 where
  pub rising : AllPairs (λ (one other : Mark). one.row ≤ other.row) marks
  pub earlier : All (λ (mark : Mark). mark.column < mark.row) marks
  pub within : All (λ (mark : Mark). mark.row < count) marks

-- of so many flags those of the steps of the pairs are set
pub record AreAsked (count : ℕ) (wanted : List (ℕ × ℕ)) (flags : List Bool) : Type 0 where
  pub long : length flags ≡ count
  pub exact : (k : ℕ) → HasFlag flags k ↔ ((index : ℕ) × Contains wanted (k, index))

-- the numbers from 1 on and below the limit whose flags are set, ascending
pub record AreFlagged (flags : List Bool) (k : ℕ) (numbers : List ℕ) : Type 0 where
  pub in_order : IsStrictlyIncreasing numbers
  pub exact : (j : ℕ) → Contains numbers j ↔ ((1 ≤ j) × (j < k) × HasFlag flags j)
