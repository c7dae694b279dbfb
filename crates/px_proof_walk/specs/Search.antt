-- The first finished list, and the unfinished ones before it.
use Rattle.std.specs.Prelude.{◌≡◌, ◌⊎◌, ℕ, ◌<◌, List, length, Contains}
use Rattle.std.specs.List.{AllByRecursion}
use Rattle.px_proof.specs.declared.shape.Tick.{Tick}
use Rattle.px_proof.specs.Shapes.{ShapeBefore}
use Rattle.px_question.specs.Limits.{IsAscending}

-- all possible lists before the end have been seen, and none of them is finished
pub record AreSeen (P F : List Tick → Type 0) (seen : List (List Tick)) (end : List Tick) : Type 0 where
  pub ascending : IsAscending seen
  pub possible : AllByRecursion P seen
  pub unfinished : AllByRecursion (λ ticks. ¬ F ticks) seen
  pub before : AllByRecursion (λ ticks. ShapeBefore ticks end) seen
  pub covers : (other : List Tick) → P other → ShapeBefore other end → Contains seen other

-- a finished list, with fewer unfinished ones before it than the limit
pub record ComesFirst (P F : List Tick → Type 0) (limit : ℕ) (ticks : List Tick) : Type 0 where
  pub possible : P ticks
  pub finished : F ticks
  pub few : (seen : List (List Tick)) × (length seen < limit) × AreSeen P F seen ticks

-- no list is finished, and there are fewer unfinished lists than the limit
pub record NoneComes (P F : List Tick → Type 0) (limit : ℕ) : Type 0 where
  pub few : (seen : List (List Tick)) × (length seen < limit) × IsAscending seen × AllByRecursion (λ ticks. ¬ F ticks) seen
      × ((other : List Tick) → P other → Contains seen other)

-- as many unfinished lists as the limit come before any other
pub record LimitComes (P F : List Tick → Type 0) (limit : ℕ) (seen : List (List Tick)) : Type 0 where
  pub count : length seen ≡ limit
  pub ascending : IsAscending seen
  pub possible : AllByRecursion P seen
  pub unfinished : AllByRecursion (λ ticks. ¬ F ticks) seen
  pub first : (other : List Tick) → P other → Contains seen other ⊎ AllByRecursion (λ ticks. ShapeBefore ticks other) seen

-- all lists have been seen, in order, and they are fewer than the limit
pub record AreAll (P : List Tick → Type 0) (limit : ℕ) (seen : List (List Tick)) : Type 0 where
  pub few : length seen < limit
  pub ascending : IsAscending seen
  pub possible : AllByRecursion P seen
  pub covers : (other : List Tick) → P other → Contains seen other
