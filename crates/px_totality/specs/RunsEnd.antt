-- Each run of a table ends.
use Rattle.std.specs.Prelude.{ℕ, List}
use Rattle.px_terms.specs.declared.atom.Atom.{Atom}
use Rattle.px_terms.specs.declared.problem.Problem.{Problem}
use Rattle.px_terms.specs.Validity.{IsValid}
use Rattle.px_table.specs.declared.table.Table.{Table}
use Rattle.px_table.specs.Tables.{IsTable}
use Rattle.px_planex.specs.Turns.{Recorded, RunsTable, TurnValue}

-- in a world of these atoms, disturbed as recorded, an executor of the table has some turns, and leaves some atoms
abbrev pub RunsEnd : {E : Type 0} → (E → List Atom → List Atom) → Type 0
RunsEnd {E} leaves = (problem : Problem) (table : Table) (bound : List (ℕ × ℕ)) (recorded : List (Recorded E)) (atoms : List Atom)
    → IsValid problem → IsTable problem table
    → (turns : List TurnValue) × ((after : List Atom) × RunsTable leaves problem table bound recorded atoms turns after)
