-- The table of a name stands where the name stands first.
use Rattle.std.specs.Prelude.{◌≡◌, ◌≢◌, ◌<◌, ℕ, Some, None, List, [], ◌∷◌, length, slice_get, slice_index_or, if◌then◌else◌}
use Rattle.std.proofs.Common.{zero, suc, refl, ap, ◌∙◌, arith, inl, inr}
use Rattle.std.proofs.lemmas.Bool.Decides.{eqb_tells}
use Rattle.px_table.specs.declared.table.Table.{Table}
use Rattle.px_library.specs.Libraries.{table_beside}

-- the names before the place are others
abbrev pub IsOtherBefore : List ℕ → ℕ → ℕ → Type 0
IsOtherBefore names place name = (k : ℕ) → k < place → slice_index_or names k 0 ≢ name

other_first : (one name : ℕ) (table : Table) (names : List ℕ) (tables : List Table) → one ≢ name
    → table_beside (one ∷ names) (table ∷ tables) name ≡ table_beside names tables name
other_first one name table names tables other = elim (eqb_tells one name) [
  | inl is ↦ absurd (other is.1)
  | inr is ↦ ap (λ b. if b then Some table else table_beside names tables name) is.0
]

same_first : (one name : ℕ) (table : Table) (names : List ℕ) (tables : List Table) → one ≡ name
    → table_beside (one ∷ names) (table ∷ tables) name ≡ Some table
same_first one name table names tables same = elim (eqb_tells one name) [
  | inl is ↦ ap (λ b. if b then Some table else table_beside names tables name) is.0
  | inr is ↦ absurd (is.1 same)
]

-- no name is it
pub beside-missing : (names : List ℕ) (tables : List Table) (name : ℕ) → IsOtherBefore names (length names) name
    → table_beside names tables name ≡ None
beside-missing [] tables name other = refl
beside-missing (one ∷ names) [] name other = refl
beside-missing (one ∷ names) (table ∷ tables) name other =
    other_first one name table names tables (other 0 (omega arith))
    ∙ beside-missing names tables name (λ k below. other (suc k) (omega (arith, below)))

-- the first that is it stands beside its table
pub beside-found : (names : List ℕ) (tables : List Table) (place name : ℕ) → length tables ≡ length names → place < length names
    → slice_index_or names place 0 ≡ name → IsOtherBefore names place name
    → table_beside names tables name ≡ slice_get tables place
beside-found [] tables place name same below is other = absurd (omega (arith, below))
beside-found (one ∷ names) [] place name same below is other = absurd (omega (arith, same))
beside-found (one ∷ names) (table ∷ tables) zero name same below is other = same_first one name table names tables is
beside-found (one ∷ names) (table ∷ tables) (suc place) name same below is other =
    other_first one name table names tables (other 0 (omega arith))
    ∙ beside-found names tables place name (omega (arith, same)) (omega (arith, below)) is
    (λ k before. other (suc k) (omega (arith, before)))
