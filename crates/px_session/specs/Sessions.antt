-- What a session holds, and what it keeps.
use Rattle.std.specs.Prelude.{◌≡◌, ◌≤◌, ℕ, Option, Some, None, List, [], length, map, All}
use Rattle.px_table.specs.Limits.{most_tables}
use Rattle.px_terms.specs.declared.atom.Atom.{Atom}
use Rattle.px_terms.specs.declared.problem.Problem.{Problem}
use Rattle.px_terms.specs.AtomSets.{IsAtomSet}
use Rattle.px_table.specs.declared.table.Table.{Table}
use Rattle.px_table.specs.Kernels.{IsProper}
use Rattle.px_table.specs.Tables.{IsTable}
use Rattle.px_world.specs.Worlds.{edited}
use Rattle.px_rooms.specs.Changes.{facts_edited}
use Rattle.px_general.specs.Limits.{IsTooDeep, IsTooLong}
use Rattle.px_library.specs.Libraries.{LibraryValue, no_tables, table_named}
use Rattle.px_planex.specs.Turns.{Recorded}
pub use Rattle.px_session.specs.declared.edit.Edit.{Edit}
pub use Rattle.px_session.specs.declared.edit.Edit.TheVariants.{OfAtoms as of_atoms, OfRooms as of_rooms}

-- ---- the state

-- the atoms that an edit leaves, in a script without a building or in one with a building
abbrev pub leaves_edit : Edit → List Atom → List Atom
leaves_edit (of_atoms one) atoms = edited one atoms
leaves_edit (of_rooms one) atoms = facts_edited one atoms

-- the world's atoms, the tables of the stored plans by name, the learned tables by name in the order of learning, and the disturbances
-- that are recorded for the next run
pub record SessionState : Type 0 where
  pub atoms : List Atom
  pub plans : LibraryValue
  pub learned : LibraryValue
  pub recorded : List (Recorded Edit)

-- tables beside the numbers of their names, in the same order
abbrev pub tables_by_name : List (ℕ × Table) → LibraryValue
tables_by_name saved = record { names = map (λ (one : ℕ × Table). one.0) saved; tables = map (λ (one : ℕ × Table). one.1) saved }

-- before the first command, where these are the script's facts (with a building, those of its first state), and its saved tables by name,
-- which are its learned tables from then on
abbrev pub opening : List Atom → List (ℕ × Table) → SessionState
opening facts saved = record { atoms = facts; plans = no_tables; learned = tables_by_name saved; recorded = [] }

abbrev pub first_table : Option Table → Option Table → Option Table
first_table None other = other
first_table (Some table) other = Some table

-- the table of the stored plan of that name, or the learned table
abbrev pub any_table : SessionState → ℕ → Option Table
any_table state name = first_table (table_named state.plans name) (table_named state.learned name)

-- ---- what it keeps

-- a table like that of each stored plan: it has no parameters, so that no object has to fit, and its own steps delete nothing that its
-- later rows rest on
pub record IsPlanTable (problem : Problem) (plan : Table) : Type 0 where
  pub table : IsTable problem plan
  pub no_params : plan.params ≡ 0
  pub proper : IsProper problem plan [] 1

-- a table like each learned one, and each saved one: it is not too long, and has no proof that is too high
pub record IsLearnedTable (problem : Problem) (learned : Table) : Type 0 where
  pub table : IsTable problem learned
  pub short : ¬ IsTooLong learned
  pub low : ¬ IsTooDeep learned

-- the world's atoms are a set, and the tables are like those of plans and learned ones, of which there are no more than may be learned
pub record IsSession (problem : Problem) (state : SessionState) : Type 0 where
  pub atoms : IsAtomSet state.atoms
  pub plans : All (IsPlanTable problem) state.plans.tables
  pub learned : All (IsLearnedTable problem) state.learned.tables
  pub few : length state.learned.tables ≤ most_tables
