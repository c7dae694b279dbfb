-- What a session keeps.
use Rattle.std.specs.Prelude.{◌≢◌, ◌<◌, ◌≤◌, ℕ, Option, List, length, drop, flat_map, All, AllPairs, Contains}
use Rattle.px_terms.specs.Limits.{most_formula_variables, most_nodes}
use Rattle.px_base.specs.Bounds.{u32_max}
use Rattle.px_names.specs.Lists.{AreNameLists}
use Rattle.px_saved.specs.ReadBack.{IsShortName}
use Rattle.px_terms.specs.declared.atom.Atom.{Atom}
use Rattle.px_terms.specs.declared.problem.Problem.{Problem}
use Rattle.px_terms.specs.Validity.{IsAtomOf, IsValid}
use Rattle.px_script.specs.declared.command.Command.{Command}
use Rattle.px_script.specs.declared.command.Command.TheVariants.{Plan, Pursue, Run, Tree}
use Rattle.px_script.specs.declared.command.Command.TheVariants as command
use Rattle.px_rooms.specs.States.{RoomState}
use Rattle.px_script.specs.Ranges.{result_given}
use Rattle.px_session.specs.CertifiedReplies.{IsCertifiableProblem}
use Rattle.px_session.specs.Named.{AreNamesOfProblem, HasTableNames, IsTellable}
use Rattle.px_session.specs.Opened.{SessionValue}
use Rattle.px_session.specs.OwnStates.{IsOwnEdit, IsOwnState, edits_given}
use Rattle.px_session.specs.RunWorlds.{IsPlaced, Takes}
use Rattle.px_session.specs.Sessions.{Edit, IsSession}
use Rattle.px_session.specs.Writable.{AsksWritable, HasWritableTables}

-- the goal is one of the problem over no more variables than one may have, and there is an object where there is a variable
pub record IsGoalToPlan (problem : Problem) (goal : List Atom) (variable_count : ℕ) : Type 0 where
  pub atoms : All (IsAtomOf problem variable_count) goal
  pub few : variable_count ≤ most_formula_variables
  pub some_object : 0 < variable_count → 0 < problem.objects

-- parameters, counted from 1, each once, with objects of the problem
pub record IsBindingToRun (problem : Problem) (bound : List (ℕ × ℕ)) : Type 0 where
  pub from_one : All (λ pair. 1 ≤ pair.0) bound
  pub objects : All (λ pair. pair.1 < problem.objects) bound
  pub once : AllPairs (λ one other. one.0 ≢ other.0) bound

-- edits of the problem that the session's world takes
pub record AreEditsToNote (problem : Problem) (building : Option RoomState) (edits : List Edit) : Type 0 where
  pub own : All (IsOwnEdit problem) edits
  pub taken : All (Takes building) edits

-- some adds, no more than can be counted
pub record AreAddsToWant (wanted : List (ℕ × ℕ)) : Type 0 where
  pub some : 0 < length wanted
  pub few : length wanted < u32_max

-- what running a command asks of the problem's numbers in it
abbrev pub IsAnswerable : Problem → Command → Type 0
IsAnswerable problem (Plan name goal variable_count) = IsGoalToPlan problem goal variable_count
IsAnswerable problem (Pursue name goal variable_count) = IsGoalToPlan problem goal variable_count
IsAnswerable problem (Tree name nodes goal variable_count) = (1 ≤ nodes) × (nodes ≤ most_nodes) × IsGoalToPlan problem goal variable_count
IsAnswerable problem (Run name bound) = IsBindingToRun problem bound
IsAnswerable problem (command.Edit name source prefix wanted) = AreAddsToWant wanted
IsAnswerable problem _ = Unit {0}

-- what running a command asks for, with the session's building
abbrev pub IsRunnable : Problem → Option RoomState → Command → Type 0
IsRunnable problem building command = IsAnswerable problem command × AreEditsToNote problem building (edits_given command)

-- a command that is still to be done gives the name
abbrev pub IsGivenLater : SessionValue → ℕ → Type 0
IsGivenLater session name = Contains (flat_map result_given (drop session.done session.commands)) name

-- The problem is valid, its numbers have names, and what the state has is its own; with a building its atoms are the building's facts.
-- Each command can be run, and its reply printed. The commands give each result once, and none that is still to be done gives the name of a
-- table that is saved, learned or edited; and these tables are named. No more disturbances are recorded than commands are done. Its tables
-- can be written, and so can those that the commands ask for; and its names can be declared.
pub record IsKeptSession (building : Option RoomState) (session : SessionValue) : Type 0 where
  pub problem : IsValid session.problem
  pub names : AreNamesOfProblem session.problem session.names
  pub state : IsSession session.problem session.state
  pub own : IsOwnState session.problem session.state
  pub placed : IsPlaced session.problem building session.state
  pub commands : All (IsRunnable session.problem building) session.commands
  pub tellable : All (IsTellable session.problem (length session.names.results)) session.commands
  pub once : AllPairs (λ one other. one ≢ other) (flat_map result_given session.commands)
  pub learned : All (λ name. ¬ IsGivenLater session name) session.state.learned.names
  pub tables_named : HasTableNames (length session.names.results) session.state
  pub few : length session.commands < u32_max
  pub recorded : length session.state.recorded ≤ session.done
  pub written : HasWritableTables session.problem session.state
  pub asked : All (AsksWritable session.problem) session.commands
  pub certifiable : IsCertifiableProblem session.problem
  pub named : AreNameLists session.names
  pub short_names : All IsShortName session.names.results
