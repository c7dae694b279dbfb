-- Why a table isn't edited.
use Rattle.std.specs.Prelude.{◌≡◌, ◌≢◌, ◌⊎◌, ◌<◌, ◌≤◌, ◌-◌, ℕ, List, [], length, map, slice_get, slice_index_or, take, Any, All, AllPairs, Contains, Some}
use Rattle.px_terms.specs.declared.problem.Problem.{Problem}
use Rattle.px_terms.specs.Operators.{adds}
use Rattle.px_proof.specs.Derivation.{height}
use Rattle.px_table.specs.declared.table.Table.{Table}
use Rattle.px_table.specs.Limits.{most_steps}
use Rattle.px_table.specs.Tables.{rows_of}
use Rattle.px_edit.specs.Editing.{AreKeptSteps, kept_of, no_step}

-- there is no prefix of that many steps
abbrev pub IsBadPrefix : Table → ℕ → Type 0
IsBadPrefix table prefix = (prefix ≡ 0) ⊎ (length table.steps < prefix)

-- the step is one of the first ones, and has an add at the place
pub record IsAddOf (problem : Problem) (table : Table) (prefix : ℕ) (pair : ℕ × ℕ) : Type 0 where
  pub counted : 1 ≤ pair.0
  pub within : pair.0 ≤ prefix
  pub has : pair.1 < length (adds problem (slice_index_or table.steps (pair.0 - 1) no_step))

-- the pair at the place names no add of the first steps, or stands there before
abbrev pub IsBadWantAt : Problem → Table → ℕ → List (ℕ × ℕ) → ℕ → Type 0
IsBadWantAt problem table prefix wanted place =
    (pair : ℕ × ℕ) × (slice_get wanted place ≡ Some pair) × ((¬ IsAddOf problem table prefix pair) ⊎ Contains (take place wanted) pair)

-- and none before it does
pub record IsFirstBadWant (problem : Problem) (table : Table) (prefix : ℕ) (wanted : List (ℕ × ℕ)) (place : ℕ) : Type 0 where
  pub bad : IsBadWantAt problem table prefix wanted place
  pub first : (earlier : ℕ) → earlier < place → ¬ IsBadWantAt problem table prefix wanted earlier

-- all of this may be asked: the prefix is there, and the pairs are different adds of its steps
pub record IsEditable (problem : Problem) (table : Table) (prefix : ℕ) (wanted : List (ℕ × ℕ)) : Type 0 where
  pub least : 1 ≤ prefix
  pub most : prefix ≤ length table.steps
  pub adds_are : All (IsAddOf problem table prefix) wanted
  pub once : AllPairs (λ one other. one ≢ other) wanted

-- the greatest height of the proofs of a learned table
abbrev pub most_kept_height : ℕ
most_kept_height = 56

-- more steps are kept than a learned table may have
abbrev pub KeepsTooMany : Table → List (ℕ × ℕ) → Type 0
KeepsTooMany table wanted = (kept : List ℕ) × AreKeptSteps table wanted kept × (most_steps < length kept)

-- a proof of a kept step's row is higher than those of learned tables may be
abbrev pub KeepsTooDeep : Table → List (ℕ × ℕ) → Type 0
KeepsTooDeep table wanted =
    (kept : List ℕ) × AreKeptSteps table wanted kept × Any (Any (λ d. most_kept_height < height d)) (kept_of [] kept (rows_of table.proofs))
