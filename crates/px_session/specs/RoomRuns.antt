-- What a session does in a building: the states that its edits, its steps and its replies leave.
use Rattle.std.specs.Prelude.{◌≡◌, ℕ, false, true, Option, None, Some, List, [], ◌∷◌, map, take, All}
use Rattle.std.proofs.Common.{suc}
use Rattle.px_terms.specs.declared.instance.OpInst.{OpInst}
use Rattle.px_terms.specs.declared.problem.Problem.{Problem}
use Rattle.px_world.specs.declared.thing.Thing.{Thing}
use Rattle.px_rooms.specs.Changes.{IsAdmitted, IsMoved, state_edited}
use Rattle.px_rooms.specs.Following.{IsMet}
use Rattle.px_rooms.specs.States.{IsRoomState, RoomState, first_state}
use Rattle.px_planex.specs.Turns.{AtGoal, AtNoKernel, ByActing, BySlipping, Recorded, TurnEnd, TurnValue, edits_at}
use Rattle.px_duo.specs.Duos.{Pair, both, own, with_own}
use Rattle.px_printer.specs.declared.duo_line.DuoEnd.{DuoEnd}
use Rattle.px_printer.specs.declared.duo_line.DuoEnd.TheVariants.{Acted}
use Rattle.px_printer.specs.declared.duo_line.DuoLine.{DuoLine}
use Rattle.px_printer.specs.declared.reply.Reply.{Reply}
use Rattle.px_printer.specs.declared.reply.Reply.TheVariants as reply
use Rattle.px_script.specs.declared.command.Command.{Command}
use Rattle.px_script.specs.declared.command.Command.TheVariants.{Run, Duo, Pursue}
use Rattle.px_script.specs.Content.{ScriptValue}
use Rattle.px_script.specs.Ranges.{IsInRange}
use Rattle.px_session.specs.DuoRuns.{who_of}
use Rattle.px_session.specs.Lawful.{Lawful, turn_told}
use Rattle.px_session.specs.OwnStates.{IsOwnPursuit, edits_given}
use Rattle.px_session.specs.RunWorlds.{IsPlaced, TakeSame, Takes}
use Rattle.px_session.specs.Sessions.{Edit, IsSession, SessionState, of_atoms, of_rooms, opening}
use Rattle.px_session.specs.Transcripts.{AreAnswers}

-- ---- edits and steps

-- the edits come one after the other, each one of rooms that is admitted in the state in which it comes
abbrev pub AreMade : List Edit → RoomState → RoomState → Type 0
AreMade [] old new = new ≡ old
AreMade (of_atoms one ∷ edits) old new = ⊥
AreMade (of_rooms one ∷ edits) old new = IsAdmitted old one × AreMade edits (state_edited one old) new

-- the step is an action whose precondition is met, and the action is done
pub record IsDone (inst : OpInst) (old new : RoomState) : Type 0 where
  pub met : IsMet old inst
  pub moved : IsMoved inst old new

-- ---- turns

-- what follows a turn's sensing: nothing, where that ends the run; else the edits between, and the step unless it slips
abbrev pub EndsInRooms : List Edit → Option OpInst → TurnEnd → RoomState → RoomState → Type 0
EndsInRooms between op AtGoal sensed new = new ≡ sensed
EndsInRooms between op AtNoKernel sensed new = new ≡ sensed
EndsInRooms between op BySlipping sensed new = AreMade between sensed new
EndsInRooms between op ByActing sensed new =
    (inst : OpInst) × (op ≡ Some inst) × ((disturbed : RoomState) × AreMade between sensed disturbed × IsDone inst disturbed new)

-- the turns from that number on, disturbed as recorded
abbrev pub AreTurnsInRooms : List (Recorded Edit) → ℕ → List TurnValue → RoomState → RoomState → Type 0
AreTurnsInRooms recorded number [] old new = new ≡ old
AreTurnsInRooms recorded number (turn ∷ turns) old new =
    (sensed : RoomState) × AreMade (edits_at recorded number false) old sensed
    × ((mid : RoomState) × EndsInRooms (edits_at recorded number true) turn.op turn.end sensed mid
    × AreTurnsInRooms recorded (suc number) turns mid new)

-- ---- two executors

-- an action that is taken leaves what its step leaves, and anything else the building as it was
abbrev pub EndsDuoInRooms : Option OpInst → DuoEnd → RoomState → RoomState → Type 0
EndsDuoInRooms step Acted old new = (inst : OpInst) × (step ≡ Some inst) × IsDone inst old new
EndsDuoInRooms step _ old new = new ≡ old

-- The lines come one after the other, where each of the two remembers its step: the one that its last line prints, if that prints one.
abbrev pub AreDuoLinesInRooms : Pair (Option OpInst) → List DuoLine → RoomState → RoomState → Type 0
AreDuoLinesInRooms steps [] old new = new ≡ old
AreDuoLinesInRooms steps (line ∷ lines) old new =
    (mid : RoomState) × EndsDuoInRooms (own (who_of line.who) steps) line.end old mid
    × AreDuoLinesInRooms (with_own (who_of line.who) line.op steps) lines mid new

-- ---- replies

-- The building's state is one of a building. Its facts are the world's atoms, and its rules the problem's; and it takes each edit that is
-- recorded.
pub record IsInBuilding (problem : Problem) (building : RoomState) (state : SessionState) : Type 0 where
  pub is_state : IsRoomState building
  pub placed : IsPlaced problem (Some building) state

-- the edits that the command gives are taken
abbrev pub HasTakenEdits : Option RoomState → Command → Type 0
HasTakenEdits building command = All (Takes building) (edits_given command)

-- what a reply leaves of the building: a run that a reply prints leaves what its turns leave, and so does a pursuit; two executors what the
-- steps leave that their lines print; and any other reply the building as it was
abbrev pub LeavesRooms : SessionState → Command → Reply → RoomState → RoomState → Type 0
LeavesRooms old (Run name bound) (reply.Ran given told) building left =
    AreTurnsInRooms old.recorded 1 (map turn_told told) building left
LeavesRooms old (Duo first second numbers) (reply.DuoRan one other lines) building left =
    AreDuoLinesInRooms (both None None) lines building left
LeavesRooms old (Pursue name goal variable_count) (reply.Pursuit given searches told end) building left =
    AreTurnsInRooms old.recorded 1 (map turn_told told) building left
LeavesRooms old command answer building left = left ≡ building

-- a lawful reply in a building leaves a state of it, in which the session is then, and which takes the same edits
pub record IsAnsweredInBuilding (problem : Problem) (old : SessionState) (building : RoomState)
    (command : Command) (answer : Reply) (new : SessionState) (left : RoomState) : Type 0 where
  pub lawful : Lawful problem old command answer new
  pub leaves : LeavesRooms old command answer building left
  pub inside : IsInBuilding problem left new
  pub same : TakeSame (Some building) (Some left)

-- each command has such a reply, in the states that the one before left
abbrev pub AreAnswersIn : Problem → SessionState → RoomState → List Command → List Reply → SessionState → RoomState → Type 0
AreAnswersIn problem old building [] [] last end = (last ≡ old) × (end ≡ building)
AreAnswersIn problem old building [] (answer ∷ answers) last end = ⊥
AreAnswersIn problem old building (first ∷ commands) [] last end = ⊥
AreAnswersIn problem old building (first ∷ commands) (answer ∷ answers) last end =
    (next : SessionState) × ((left : RoomState) × IsAnsweredInBuilding problem old building first answer next left
    × AreAnswersIn problem next left commands answers last end)

-- A script with a building begins in the building's first state. In a building each lawful reply leaves a state of it; so do the lawful
-- replies to the first commands of a script, however many.
pub record RoomsAreKept : Type 0 where
  pub opened : (script : ScriptValue) (things : List Thing) → IsInRange script → script.building ≡ Some things
      → IsInBuilding script.problem (first_state things) (opening script.facts script.saved)
  pub kept : (problem : Problem) (old : SessionState) (building : RoomState) (command : Command) (answer : Reply) (new : SessionState)
      → IsSession problem old → IsInBuilding problem building old → HasTakenEdits (Some building) command → IsOwnPursuit problem command
      → Lawful problem old command answer new → (left : RoomState) × IsAnsweredInBuilding problem old building command answer new left
  pub answers : (script : ScriptValue) (things : List Thing) (count : ℕ) (answers : List Reply) (last : SessionState)
      → IsInRange script → script.building ≡ Some things
      → AreAnswers script.problem (opening script.facts script.saved) (take count script.commands) answers last
      → (end : RoomState) × AreAnswersIn script.problem (opening script.facts script.saved) (first_state things)
      (take count script.commands) answers last end
      × IsInBuilding script.problem end last
