-- What the refusals say once the pairs may be wanted.
use Rattle.std.specs.Prelude.{ℕ, List}
use Rattle.px_table.specs.declared.table.Table.{Table}
use Rattle.px_edit.specs.declared.edit_err.EditErr.{EditErr}
use Rattle.px_edit.specs.declared.edit_err.EditErr.TheVariants.{BadPrefix, BadWant, TooLong, TooDeep, NoMemory}
use Rattle.px_edit.specs.EditCauses.{KeepsTooDeep, KeepsTooMany}

-- neither are too many steps kept, nor is a proof of their rows too high
pub record IsWithinLimits (table : Table) (wanted : List (ℕ × ℕ)) : Type 0 where
  pub few : ¬ KeepsTooMany table wanted
  pub low : ¬ KeepsTooDeep table wanted

abbrev pub Refuses : Table → List (ℕ × ℕ) → EditErr → Type 0
Refuses table wanted BadPrefix = ⊥
Refuses table wanted (BadWant place) = ⊥
Refuses table wanted TooLong = KeepsTooMany table wanted
Refuses table wanted TooDeep = (¬ KeepsTooMany table wanted) × KeepsTooDeep table wanted
Refuses table wanted NoMemory = Unit {0}
