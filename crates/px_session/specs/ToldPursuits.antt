-- What follows from a lawful reply that prints a pursuit.
use Rattle.std.specs.Prelude.{◌≡◌, ◌≤◌, ◌+◌, ◌*◌, ◌++◌, ℕ, List, [], length, map, All}
use Rattle.std.proofs.Common.{zero, suc}
use Rattle.px_terms.specs.declared.atom.Atom.{Atom}
use Rattle.px_terms.specs.declared.problem.Problem.{Problem}
use Rattle.px_terms.specs.Plans.{Carries}
use Rattle.px_terms.specs.Validity.{IsAtomOf, IsValid}
use Rattle.px_table.specs.declared.entry.Move.{Move}
use Rattle.px_table.specs.declared.table.Table.{Table}
use Rattle.px_table.specs.Tables.{IsTable}
use Rattle.px_ends.specs.Made.{IsTableOfMoves}
use Rattle.px_ends.specs.Tasks.{steps_of, task_of}
use Rattle.px_planex.specs.Execution.{Memory, Traces, nothing_sensed}
use Rattle.px_planex.specs.Executors.{running}
use Rattle.px_planex.specs.RunTraces.{run_events, run_outcomes}
use Rattle.px_planex.specs.Turns.{AtGoal, AtNoKernel, TurnValue}
use Rattle.px_printer.specs.declared.pursue_end.PursueEnd.{PursueEnd}
use Rattle.px_printer.specs.declared.pursue_end.PursueEnd.TheVariants.{Goal}
use Rattle.px_printer.specs.declared.reply.Reply.{Reply}
use Rattle.px_printer.specs.declared.reply.Reply.TheVariants as reply
use Rattle.px_printer.specs.declared.turn.Turn.{Turn}
use Rattle.px_pursue.specs.Pursuits.{RunsInVain}
use Rattle.px_pursue.specs.Searches.{EndsWithoutPlan, FindsMoves}
use Rattle.px_script.specs.declared.command.Command.{Command}
use Rattle.px_script.specs.declared.command.Command.TheVariants.{Pursue}
use Rattle.px_turns.specs.Told.{EndsRun}
use Rattle.px_session.specs.Lawful.{Lawful, turn_told}
use Rattle.px_session.specs.Opened.{tables_of}
use Rattle.px_session.specs.OwnStates.{IsOwnGoal}
use Rattle.px_session.specs.Sessions.{IsSession, SessionState, leaves_edit}

-- ---- the runs of a pursuit

module _ (problem : Problem) (old : SessionState) (goal : List Atom) (variable_count : ℕ) where
  -- From these atoms a plan was found, and executed from them in these turns, the first of which has that number. The executor of its table
  -- has sensed nothing yet. Turn by turn the events, the edits that are recorded for it before the sensing, the sensing, those for between,
  -- and the action, have the outcomes that the turns say, and lead to those atoms.
  pub record TracesPlan (number : ℕ) (atoms : List Atom) (run : List TurnValue) (after : List Atom) : Type 0 where
    pub moves : List Move
    pub found : FindsMoves (task_of problem old.learned.tables atoms goal variable_count) moves
    pub plan : Table
    pub made : IsTableOfMoves (task_of problem old.learned.tables atoms goal variable_count) moves plan
    pub is_table : IsTable problem plan
    pub memory : Memory
    pub traces : Traces leaves_edit problem plan [] (running atoms nothing_sensed) (run_events old.recorded number run)
        (run_outcomes old.recorded number run) (running after memory)

  -- The last search found a plan that led to the goal in these turns; or it ended like this, without a plan, and there are no turns.
  abbrev pub EndsTraced : ℕ → List Atom → List TurnValue → PursueEnd → List Atom → Type 0
  EndsTraced number atoms run Goal after = TracesPlan number atoms run after × EndsRun AtGoal run
  EndsTraced number atoms run end after =
      EndsWithoutPlan (task_of problem old.learned.tables atoms goal variable_count) end × (run ≡ []) × (after ≡ atoms)

  -- So many searches: the plan of each but the last is executed up to a sensing that finds no kernel, and the next search is from what was
  -- sensed there.
  abbrev pub TracesSearches : ℕ → ℕ → List Atom → List TurnValue → PursueEnd → List Atom → Type 0
  TracesSearches zero number atoms turns end after = ⊥
  TracesSearches (suc zero) number atoms turns end after = EndsTraced number atoms turns end after
  TracesSearches (suc (suc more)) number atoms turns end after =
      (run rest : List TurnValue) × ((mid : List Atom) × TracesPlan number atoms run mid × EndsRun AtNoKernel run × (turns ≡ run ++ rest)
      × TracesSearches (suc more) (number + length run) mid rest end after)

-- ---- what a reply is worth

-- With D recorded disturbances there are at most D + 1 searches. Where the pursuit ends at the goal, the goal holds in each state in which
-- the axioms and the world's atoms after it hold: no step is left.
pub record IsWorth (problem : Problem) (old : SessionState) (goal : List Atom) (variable_count searches : ℕ) (end : PursueEnd)
    (new : SessionState) : Type 0 where
  pub few : searches ≤ length old.recorded + 1
  pub reached : end ≡ Goal → Carries problem new.atoms [] variable_count goal

-- a pursuit that a reply prints is so
abbrev pub PursuitIsWorth : Problem → SessionState → Command → Reply → SessionState → Type 0
PursuitIsWorth problem old (Pursue name goal variable_count) (reply.Pursuit given searches told end) new =
    IsWorth problem old goal variable_count searches end new
PursuitIsWorth problem old _ _ new = Unit {0}

-- The searches and turns of a pursuit are those of its plans, each executed by the highest kernel. Where no plan that it finds has more
-- than n steps, it has at most (2 * D + 1) * (n + 1) turns with D recorded disturbances. It neither stores nor learns a table.
pub record ToldPursuits : Type 0 where
  pub worth : (problem : Problem) (old : SessionState) (given : Command) (answer : Reply) (new : SessionState) → IsValid problem
      → IsSession problem old → IsOwnGoal problem given → Lawful problem old given answer new
      → PursuitIsWorth problem old given answer new
  pub traced : (problem : Problem) (old : SessionState) (name given : ℕ) (goal : List Atom) (variable_count searches : ℕ)
      (told : List Turn) (end : PursueEnd) (new : SessionState) → IsValid problem → IsSession problem old → All (IsAtomOf problem variable_count) goal
      → Lawful problem old (Pursue name goal variable_count) (reply.Pursuit given searches told end) new
      → TracesSearches problem old goal variable_count searches 1 old.atoms (map turn_told told) end new.atoms
  pub short : (problem : Problem) (old : SessionState) (name given : ℕ) (goal : List Atom) (variable_count searches : ℕ)
      (told : List Turn) (end : PursueEnd) (new : SessionState) (n : ℕ)
      → IsValid problem → IsSession problem old → All (IsAtomOf problem variable_count) goal
      → ((count : ℕ) (before : List TurnValue) (from : List Atom) (moves : List Move)
      → RunsInVain leaves_edit problem old.learned.tables goal variable_count old.recorded count 1 old.atoms before from
      → FindsMoves (task_of problem old.learned.tables from goal variable_count) moves
      → length (steps_of old.learned.tables [] moves) ≤ n)
      → Lawful problem old (Pursue name goal variable_count) (reply.Pursuit given searches told end) new
      → length told ≤ (2 * length old.recorded + 1) * (n + 1)
  pub keeps : (problem : Problem) (old : SessionState) (name : ℕ) (goal : List Atom) (variable_count : ℕ) (answer : Reply) (new : SessionState)
      → Lawful problem old (Pursue name goal variable_count) answer new → (tables_of new ≡ tables_of old) × (new.recorded ≡ [])
