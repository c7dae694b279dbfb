-- A worked run in a building: someone closes the door that the robot has opened, and the robot opens it again.
use Rattle.std.specs.Prelude.{◌≡◌, ℕ, Bool, true, false, Option, Some, None, List, [], ◌∷◌}
use Rattle.px_world.specs.declared.edits.RoomEdit.TheVariants as edit
use Rattle.px_world.specs.declared.thing.Thing.{Thing}
use Rattle.px_world.specs.declared.thing.Thing.TheVariants as thing
use Rattle.px_rooms.specs.declared.action.RoomAction.{RoomAction}
use Rattle.px_rooms.specs.declared.action.RoomAction.TheVariants as act
use Rattle.px_rooms.specs.declared.standing.Standing.TheVariants.{Room as a_room, Door as a_door, Box as a_box}
use Rattle.px_rooms.specs.Changes.{instance_of_action}
use Rattle.px_rooms.specs.States.{RoomState, first_state}
use Rattle.px_planex.specs.Turns.{AtGoal, ByActing, Recorded, TurnValue}
use Rattle.px_session.specs.RoomRuns.{AreTurnsInRooms, IsDone}
use Rattle.px_session.specs.Sessions.{Edit, of_rooms}

-- two rooms with a closed door between them, a box in the second room, and the robot in the first
abbrev pub closed_door : List Thing
closed_door = thing.Room ∷ thing.Room ∷ thing.Door 1 2 false ∷ thing.Box 2 ∷ thing.Robot 1 ∷ []

-- the robot's room and what it is beside, and whether the door, which is thing 3, is open
abbrev pub with_robot : ℕ → Option ℕ → Bool → RoomState
with_robot room beside is_open =
    record { robot_room = room; robot_beside = beside; things = a_room ∷ a_room ∷ a_door 1 2 is_open ∷ a_box 2 None ∷ [] }

-- `disturb 3 before door D closed`
abbrev pub someone_closes : Recorded Edit
someone_closes = record { turn = 3; between = false; edits = of_rooms (edit.Door 3 false) ∷ [] }

abbrev pub acting : ℕ → RoomAction → TurnValue
acting kernel action = record { kernel = kernel; op = Some (instance_of_action action); end = ByActing }

-- to the door, which is opened; after it was closed it is opened again, and gone through to the goal
abbrev pub five_turns : List TurnValue
five_turns =
    acting 1 (act.GoToDoor 3 1 2) ∷ acting 2 (act.Open 3) ∷ acting 2 (act.Open 3) ∷ acting 3 (act.GoThrough 3 1 2)
    ∷ record { kernel = 4; op = None; end = AtGoal } ∷ []

-- In the end the robot is in the second room, beside nothing, and the door is open. A door that is open isn't opened.
pub record WorkedRooms : Type 0 where
  pub first : first_state closed_door ≡ with_robot 1 None false
  pub turned : AreTurnsInRooms (someone_closes ∷ []) 1 five_turns (first_state closed_door) (with_robot 2 None true)
  pub not_twice : (next : RoomState) → ¬ IsDone (instance_of_action (act.Open 3)) (with_robot 1 (Some 3) true) next
