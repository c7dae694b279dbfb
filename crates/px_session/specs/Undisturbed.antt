-- Runs that nothing disturbs any more, from the sensing of some turn on.
use Rattle.std.specs.Prelude.{◌≡◌, ℕ, ◌<◌, ◌≤◌, ◌+◌, Bool, true, Some, List, [], ◌∷◌, ◌++◌, length}
use Rattle.px_terms.specs.declared.problem.Problem.{Problem}
use Rattle.px_terms.specs.Validity.{IsValid}
use Rattle.px_table.specs.declared.table.Table.{Table}
use Rattle.px_planex.specs.Turns.{Recorded, edits_at}
use Rattle.px_printer.specs.declared.reply.Reply.TheVariants as reply
use Rattle.px_printer.specs.declared.turn.Turn.{Turn}
use Rattle.px_script.specs.declared.command.Command.TheVariants.{Run}
use Rattle.px_session.specs.Demo.{ends_in_goal}
use Rattle.px_session.specs.Lawful.{Lawful}
use Rattle.px_session.specs.Sessions.{Edit, IsSession, SessionState, any_table}

-- no edit comes after the sensing of that turn: none between that and its action, and none in a later turn
pub record IsUndisturbedAfter (recorded : List (Recorded Edit)) (number : ℕ) : Type 0 where
  pub between : edits_at recorded number true ≡ []
  pub later : (turn : ℕ) (point : Bool) → number < turn → edits_at recorded turn point ≡ []

-- Where one of the turns has sensed kernel `i`, at least 1, of a table of `n` steps, and no edit comes after that, the last turn is at the
-- goal, and at most `n + 1 - i` turns come after that one.
abbrev pub ReachesGoal : Table → List (Recorded Edit) → List Turn → Type 0
ReachesGoal table recorded told = (before after : List Turn) (turn : Turn) → told ≡ before ++ turn ∷ after
    → 1 ≤ turn.kernel → IsUndisturbedAfter recorded (length before + 1)
    → (ends_in_goal told ≡ true) × (length after + turn.kernel ≤ length table.steps + 1)

-- so do the turns of each run that a lawful reply prints
pub record UndisturbedRuns : Type 0 where
  pub reached : (problem : Problem) (old : SessionState) (name given : ℕ) (bound : List (ℕ × ℕ))
      (table : Table) (told : List Turn) (new : SessionState)
      → IsValid problem → IsSession problem old → any_table old name ≡ Some table
      → Lawful problem old (Run name bound) (reply.Ran given told) new → ReachesGoal table old.recorded told
