-- Runs where all edits are of one kind.
use Rattle.std.specs.Prelude.{ℕ, List, map}
use Rattle.px_terms.specs.declared.atom.Atom.{Atom}
use Rattle.px_terms.specs.declared.problem.Problem.{Problem}
use Rattle.px_table.specs.declared.table.Table.{Table}
use Rattle.px_world.specs.declared.edits.AtomEdit.{AtomEdit}
use Rattle.px_world.specs.declared.edits.RoomEdit.{RoomEdit}
use Rattle.px_world.specs.Worlds.{edited}
use Rattle.px_rooms.specs.Changes.{facts_edited}
use Rattle.px_planex.specs.Turns.{Recorded, RunsTable, TurnValue}
use Rattle.px_session.specs.Sessions.{Edit, leaves_edit, of_atoms, of_rooms}

-- a recorded disturbance, whose edits are of one kind, as a session records it
abbrev pub as_edits : {E : Type 0} → (E → Edit) → Recorded E → Recorded Edit
as_edits into recorded = record { turn = recorded.turn; between = recorded.between; edits = map into recorded.edits }

-- What an executor does in a world of atoms, or in a building, is what a session's run does with the same disturbances.
pub record OneKindRuns : Type 0 where
  pub of_atoms_alone : (problem : Problem) (table : Table) (bound : List (ℕ × ℕ))
      (recorded : List (Recorded AtomEdit)) (atoms : List Atom) (turns : List TurnValue) (after : List Atom)
      → RunsTable edited problem table bound recorded atoms turns after
      → RunsTable leaves_edit problem table bound (map (as_edits of_atoms) recorded) atoms turns after
  pub of_rooms_alone : (problem : Problem) (table : Table) (bound : List (ℕ × ℕ))
      (recorded : List (Recorded RoomEdit)) (atoms : List Atom) (turns : List TurnValue) (after : List Atom)
      → RunsTable facts_edited problem table bound recorded atoms turns after
      → RunsTable leaves_edit problem table bound (map (as_edits of_rooms) recorded) atoms turns after
