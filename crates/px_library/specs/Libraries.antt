-- Tables by their names.
use Rattle.std.specs.Prelude.{◌≡◌, ◌≢◌, ◌≤◌, ◌==◌, ◌++◌, ℕ, Option, Some, None, List, [], ◌∷◌, length, AllPairs, if◌then◌else◌}
use Rattle.px_table.specs.Limits.{most_tables}
use Rattle.px_table.specs.declared.table.Table.{Table}

-- the names, and their tables in the same order, that of learning
pub record LibraryValue : Type 0 where
  pub names : List ℕ
  pub tables : List Table

abbrev pub no_tables : LibraryValue
no_tables = record { names = []; tables = [] }

-- as many tables as names, no name twice, and not too many of them
pub record IsLibrary (library : LibraryValue) : Type 0 where
  pub same : length library.tables ≡ length library.names
  pub distinct : AllPairs (λ m n. m ≢ n) library.names
  pub few : length library.names ≤ most_tables

-- the table beside the name, where it stands first
abbrev pub table_beside : List ℕ → List Table → ℕ → Option Table
table_beside [] tables name = None
table_beside (one ∷ names) [] name = None
table_beside (one ∷ names) (table ∷ tables) name = if one == name then Some table else table_beside names tables name

abbrev pub table_named : LibraryValue → ℕ → Option Table
table_named library name = table_beside library.names library.tables name

-- one table more, the last
abbrev pub with_table : LibraryValue → ℕ → Table → LibraryValue
with_table library name table = record { names = library.names ++ name ∷ []; tables = library.tables ++ table ∷ [] }
