-- What follows from a lawful reply that prints a run.
use Rattle.std.specs.Prelude.{◌≡◌, ◌≤◌, ◌+◌, ◌*◌, ℕ, Some, List, length, map}
use Rattle.px_terms.specs.declared.problem.Problem.{Problem}
use Rattle.px_terms.specs.Validity.{IsValid}
use Rattle.px_table.specs.declared.table.Table.{Table}
use Rattle.px_planex.specs.Execution.{Memory, Traces, nothing_sensed}
use Rattle.px_planex.specs.Executors.{running}
use Rattle.px_planex.specs.RunTraces.{run_events, run_outcomes}
use Rattle.px_printer.specs.declared.reply.Reply.TheVariants as reply
use Rattle.px_printer.specs.declared.turn.Turn.{Turn}
use Rattle.px_script.specs.declared.command.Command.TheVariants.{Run}
use Rattle.px_session.specs.Lawful.{Lawful, turn_told}
use Rattle.px_session.specs.Sessions.{IsSession, SessionState, any_table, leaves_edit}

-- With D recorded disturbances and a table of n steps a run has at most (D + 1) * (n + 1) turns. Its events, turn by turn the edits that
-- are recorded for before the sensing, the sensing, those for between, and the action, have the outcomes that the turns say, and lead from
-- the world's atoms before to those after.
pub record ToldRuns : Type 0 where
  pub few : (problem : Problem) (old : SessionState) (name given : ℕ) (bound : List (ℕ × ℕ))
      (table : Table) (told : List Turn) (new : SessionState)
      → IsValid problem → IsSession problem old → any_table old name ≡ Some table
      → Lawful problem old (Run name bound) (reply.Ran given told) new
      → length told ≤ (length old.recorded + 1) * (length table.steps + 1)
  pub traced : (problem : Problem) (old : SessionState) (name given : ℕ) (bound : List (ℕ × ℕ))
      (table : Table) (told : List Turn) (new : SessionState)
      → any_table old name ≡ Some table → Lawful problem old (Run name bound) (reply.Ran given told) new
      → (memory : Memory) × Traces leaves_edit problem table bound (running old.atoms nothing_sensed)
      (run_events old.recorded 1 (map turn_told told)) (run_outcomes old.recorded 1 (map turn_told told)) (running new.atoms memory)
