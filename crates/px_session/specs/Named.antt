-- That each number that a lawful reply prints as a name has one.
use Rattle.std.specs.Prelude.{◌≡◌, ◌<◌, ℕ, length, All}
use Rattle.px_names.specs.Lists.{NameLists}
use Rattle.px_terms.specs.declared.problem.Problem.{Problem}
use Rattle.px_terms.specs.Validity.{IsAtomOf, IsValid}
use Rattle.px_printer.specs.Replies.{IsReplyNamed}
use Rattle.px_printer.specs.declared.reply.Reply.{Reply}
use Rattle.px_script.specs.declared.command.Command.{Command}
use Rattle.px_script.specs.declared.command.Command.TheVariants.{Plan, Learn, Show, Save, Certify, DisturbAtoms, DisturbRooms, Run, Duo, Edit, Pursue, Tree, Facts}
use Rattle.px_script.specs.Content.{ScriptValue}
use Rattle.px_script.specs.Ranges.{IsInRange}
use Rattle.px_session.specs.Lawful.{Lawful}
use Rattle.px_session.specs.Sessions.{IsSession, SessionState, opening}

-- each number of the problem has a name
pub record AreNamesOfProblem (problem : Problem) (names : NameLists) : Type 0 where
  pub objects : length names.objects ≡ problem.objects
  pub predicates : length names.predicates ≡ length problem.arities
  pub operators : length names.operators ≡ length problem.schemas

-- A plan, a pursuit and a tree each have the name of a result, and a goal of atoms of the problem with these variables; `learn` takes the
-- names of two results, and so does `edit`; `run`, and what only asks about a table, take the name of a result, and `duo` takes two. Edits
-- and the facts have no names of results.
abbrev pub IsTellable : Problem → ℕ → Command → Type 0
IsTellable problem results (Plan name goal variable_count) = (name < results) × All (IsAtomOf problem variable_count) goal
IsTellable problem results (Pursue name goal variable_count) = (name < results) × All (IsAtomOf problem variable_count) goal
IsTellable problem results (Tree name nodes goal variable_count) = (name < results) × All (IsAtomOf problem variable_count) goal
IsTellable problem results (Learn name source) = (name < results) × (source < results)
IsTellable problem results (Show name) = name < results
IsTellable problem results (Save name) = name < results
IsTellable problem results (Certify name) = name < results
IsTellable problem results (DisturbAtoms turn between edits) = Unit {0}
IsTellable problem results (DisturbRooms turn between edits) = Unit {0}
IsTellable problem results (Run name bindings) = name < results
IsTellable problem results (Duo first second numbers) = (first < results) × (second < results)
IsTellable problem results (Edit name source prefix wanted) = (name < results) × (source < results)
IsTellable problem results Facts = Unit {0}

-- each learned table has a name, which is one of so many results
pub record HasTableNames (results : ℕ) (state : SessionState) : Type 0 where
  pub each : length state.learned.names ≡ length state.learned.tables
  pub known : All (λ name. name < results) state.learned.names

-- a tree tells of learned tables, and so these are named
abbrev pub TellsOfNamed : ℕ → SessionState → Command → Type 0
TellsOfNamed results state (Tree name nodes goal variable_count) = HasTableNames results state
TellsOfNamed results state _ = Unit {0}

-- In a session's state with atoms of a valid problem, each lawful reply has a name for each number that it prints as one. The tables that
-- a script begins with are named, and they stay so by each lawful reply.
pub record RepliesAreNamed : Type 0 where
  pub replies : (problem : Problem) (names : NameLists) (old : SessionState) (given : Command) (answer : Reply) (new : SessionState)
      → IsValid problem → AreNamesOfProblem problem names → All (IsAtomOf problem 0) old.atoms → IsSession problem old
      → TellsOfNamed (length names.results) old given → IsTellable problem (length names.results) given
      → Lawful problem old given answer new → IsReplyNamed names answer
  pub opened : (script : ScriptValue) → IsInRange script → HasTableNames (length script.names.results) (opening script.facts script.saved)
  pub kept : (problem : Problem) (results : ℕ) (old : SessionState) (given : Command) (answer : Reply) (new : SessionState)
      → HasTableNames results old → IsTellable problem results given → Lawful problem old given answer new → HasTableNames results new
