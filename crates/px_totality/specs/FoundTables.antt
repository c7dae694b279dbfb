-- The moves that a search found, with whatever weight, have a table.
use Rattle.std.specs.Prelude.{ℕ, List, All}
use Rattle.px_terms.specs.Validity.{IsAtomOf, IsValid}
use Rattle.px_table.specs.declared.entry.Move.{Move}
use Rattle.px_table.specs.declared.table.Table.{Table}
use Rattle.px_entries.specs.Learned.{AreLearned}
use Rattle.px_ends.specs.ByValue.{IsFound}
use Rattle.px_ends.specs.Made.{IsTableOfMoves}
use Rattle.px_ends.specs.Tasks.{Task}

-- where the goal is one of a valid problem, and the tables are like learned ones
abbrev pub FoundHaveTables : Type 0
FoundHaveTables = (task : Task) (weight : ℕ) (moves : List Move) → IsValid task.problem
    → All (IsAtomOf task.problem task.variable_count) task.goal → AreLearned task.problem task.tables → IsFound task weight moves
    → (table : Table) × IsTableOfMoves task moves table
