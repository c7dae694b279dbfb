-- Where a session's atoms, and the edits that it has recorded, are of the problem.
use Rattle.std.specs.Prelude.{List, [], map, All}
use Rattle.px_terms.specs.declared.problem.Problem.{Problem}
use Rattle.px_terms.specs.Validity.{IsAtomOf, IsValid}
use Rattle.px_rooms.specs.Changes.{edit_schema}
use Rattle.px_planex.specs.Turns.{Recorded}
use Rattle.px_script.specs.declared.command.Command.{Command}
use Rattle.px_script.specs.declared.command.Command.TheVariants.{DisturbAtoms, DisturbRooms, Plan, Pursue, Tree}
use Rattle.px_script.specs.Ranges.{IsEditOf}
use Rattle.px_session.specs.Sessions.{Edit, SessionState, of_atoms, of_rooms}

-- an edit of an atom of the problem, or one of rooms whose new fact is an atom of the problem
abbrev pub IsOwnEdit : Problem → Edit → Type 0
IsOwnEdit problem (of_atoms one) = IsEditOf problem one
IsOwnEdit problem (of_rooms one) = All (IsAtomOf problem 0) (edit_schema one).add

-- all edits that are recorded are of the problem
abbrev pub AreOwnEdits : Problem → List (Recorded Edit) → Type 0
AreOwnEdits problem recorded = All (λ one. All (IsOwnEdit problem) one.edits) recorded

-- the edits that a command gives to record
abbrev pub edits_given : Command → List Edit
edits_given (DisturbAtoms turn between edits) = map of_atoms edits
edits_given (DisturbRooms turn between edits) = map of_rooms edits
edits_given _ = []

-- the edits that a command gives to record are of the problem
abbrev pub HasOwnEdits : Problem → Command → Type 0
HasOwnEdits problem command = All (IsOwnEdit problem) (edits_given command)

-- a goal is one of the problem
abbrev pub IsOwnGoal : Problem → Command → Type 0
IsOwnGoal problem (Plan name goal variable_count) = All (IsAtomOf problem variable_count) goal
IsOwnGoal problem (Pursue name goal variable_count) = All (IsAtomOf problem variable_count) goal
IsOwnGoal problem (Tree name nodes goal variable_count) = All (IsAtomOf problem variable_count) goal
IsOwnGoal problem _ = Unit {0}

-- a goal that is pursued is one of the problem, which is valid
abbrev pub IsOwnPursuit : Problem → Command → Type 0
IsOwnPursuit problem (Pursue name goal variable_count) = IsValid problem × All (IsAtomOf problem variable_count) goal
IsOwnPursuit problem _ = Unit {0}

-- the world's atoms, and the edits that are recorded for the next run, are of the problem
pub record IsOwnState (problem : Problem) (state : SessionState) : Type 0 where
  pub atoms : All (IsAtomOf problem 0) state.atoms
  pub edits : AreOwnEdits problem state.recorded
