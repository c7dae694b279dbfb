-- A small building: its facts, each action and the edits.
use Rattle.std.specs.Prelude.{◌≡◌, ℕ, Bool, true, false, Option, Some, None, List, [], ◌∷◌}
use Rattle.std.specs.List.{list_all, list_any}
use Rattle.px_terms.specs.declared.atom.Atom.{Atom}
use Rattle.px_terms.specs.declared.term.Term.TheVariants.{Obj}
use Rattle.px_terms.specs.Operators.{precondition, result_of}
use Rattle.px_terms.specs.Order.{atom_eq}
use Rattle.px_world.specs.declared.edits.RoomEdit.{RoomEdit}
use Rattle.px_world.specs.declared.edits.RoomEdit.TheVariants as edit
use Rattle.px_world.specs.declared.thing.Thing.{Thing}
use Rattle.px_world.specs.declared.thing.Thing.TheVariants as thing
use Rattle.px_rooms.specs.declared.action.RoomAction.{RoomAction}
use Rattle.px_rooms.specs.declared.action.RoomAction.TheVariants as act
use Rattle.px_rooms.specs.Changes.{IsAdmitted, acted, facts_edited, instance_of_action, state_edited}
use Rattle.px_rooms.specs.Domain.{closed, connects, in_room, is_box, is_door, is_room, next_to, opened_door}
use Rattle.px_rooms.specs.declared.standing.Standing.TheVariants.{Room as a_room, Door as a_door, Box as a_box}
use Rattle.px_rooms.specs.States.{IsBuilding, RoomState, building_rules, first_state, rendering}

-- ---- the building

-- two rooms with a closed door between them, and a box and the robot in the first room
abbrev pub two_rooms : List Thing
two_rooms = thing.Room ∷ thing.Room ∷ thing.Door 1 2 false ∷ thing.Box 1 ∷ thing.Robot 1 ∷ []

-- a state of this building: the robot's room and what it is beside, whether the door is open, the box's room and whether it is beside the
-- door. The rooms have the numbers 1 and 2, the door 3 and the box 4
abbrev pub standing : ℕ → Option ℕ → Bool → ℕ → Option ℕ → RoomState
standing robot_room robot_beside is_open box_room box_beside =
    record {
      robot_room = robot_room;
      robot_beside = robot_beside;
      things = a_room ∷ a_room ∷ a_door 1 2 is_open ∷ a_box box_room box_beside ∷ [];
    }

-- ---- what actions and edits give

-- whether each atom of the action's precondition is a fact
abbrev pub is_met : RoomState → RoomAction → Bool
is_met state action = list_all (λ atom. list_any (atom_eq atom) (rendering state))
    (precondition (building_rules state) (instance_of_action action))

-- the precondition is met, the action leaves that state, and its facts are what the operator says
pub record ActionGives (state : RoomState) (action : RoomAction) (next : RoomState) : Type 0 where
  pub met : is_met state action ≡ true
  pub left : acted action state ≡ next
  pub facts : rendering next ≡ result_of (building_rules state) (rendering state) (instance_of_action action)

-- the edit leaves that state, and its facts are those that the edit leaves
pub record EditGives (state : RoomState) (one : RoomEdit) (next : RoomState) : Type 0 where
  pub left : state_edited one state ≡ next
  pub facts : rendering next ≡ facts_edited one (rendering state)

-- ---- the facts

-- the facts that are ordered after those that say where things are: the ways through the door, whether it is open, and the kinds of the
-- things
abbrev pub ways_and_kinds : Atom → List Atom
ways_and_kinds door =
    connects (Obj 3) (Obj 1) (Obj 2)
    ∷ connects (Obj 3) (Obj 2) (Obj 1)
    ∷ door
    ∷ is_room (Obj 1)
    ∷ is_room (Obj 2)
    ∷ is_door (Obj 3)
    ∷ is_box (Obj 4)
    ∷ []

-- the building's state and facts at first, and the facts where the robot is beside the box and the box beside the open door
pub record StateFacts : Type 0 where
  pub building : IsBuilding two_rooms
  pub first : first_state two_rooms ≡ standing 1 None false 1 None
  pub first_facts : rendering (standing 1 None false 1 None) ≡
      in_room (Obj 0) (Obj 1) ∷ in_room (Obj 4) (Obj 1) ∷ ways_and_kinds (closed (Obj 3))
  pub later_facts : rendering (standing 1 (Some 4) true 1 (Some 3)) ≡
      in_room (Obj 0) (Obj 1) ∷ in_room (Obj 4) (Obj 1) ∷ next_to (Obj 0) (Obj 4) ∷ next_to (Obj 4) (Obj 3) ∷ ways_and_kinds
      (opened_door (Obj 3))

-- the things may stand in any order; which lists are no building
pub record KindFacts : Type 0 where
  pub any_order : IsBuilding (thing.Robot 2 ∷ thing.Box 2 ∷ thing.Room ∷ [])
  pub no_robot : ¬ IsBuilding (thing.Room ∷ [])
  pub two_robots : ¬ IsBuilding (thing.Room ∷ thing.Robot 1 ∷ thing.Robot 1 ∷ [])
  pub robot_in_itself : ¬ IsBuilding (thing.Room ∷ thing.Robot 0 ∷ [])
  pub robot_nowhere : ¬ IsBuilding (thing.Room ∷ thing.Robot 2 ∷ [])
  pub box_in_a_box : ¬ IsBuilding (thing.Room ∷ thing.Box 2 ∷ thing.Robot 1 ∷ [])
  pub one_sided_door : ¬ IsBuilding (thing.Room ∷ thing.Door 1 1 true ∷ thing.Robot 1 ∷ [])
  pub box_admitted : IsAdmitted (standing 1 None false 1 None) (edit.Box 4 2)
  pub door_no_box : ¬ IsAdmitted (standing 1 None false 1 None) (edit.Box 3 2)
  pub door_no_room : ¬ IsAdmitted (standing 1 None false 1 None) (edit.Robot 3)
  pub room_no_door : ¬ IsAdmitted (standing 1 None false 1 None) (edit.Door 1 true)

-- each of the seven actions; a closed door can't be gone through
pub record ActionFacts : Type 0 where
  pub go_to_box : ActionGives (standing 1 (Some 3) true 1 None) (act.GoToBox 4 1) (standing 1 (Some 4) true 1 None)
  pub go_to_door : ActionGives (standing 1 None false 1 None) (act.GoToDoor 3 1 2) (standing 1 (Some 3) false 1 None)
  pub open_door : ActionGives (standing 1 (Some 3) false 1 None) (act.Open 3) (standing 1 (Some 3) true 1 None)
  pub close_door : ActionGives (standing 1 (Some 3) true 1 None) (act.Close 3) (standing 1 (Some 3) false 1 None)
  pub go_through : ActionGives (standing 1 (Some 3) true 1 None) (act.GoThrough 3 1 2) (standing 2 None true 1 None)
  pub push_to_door : ActionGives (standing 1 (Some 4) true 1 None) (act.PushToDoor 4 3 1 2) (standing 1 (Some 4) true 1 (Some 3))
  pub push_through : ActionGives (standing 1 (Some 4) true 1 (Some 3)) (act.PushThrough 4 3 1 2) (standing 2 (Some 4) true 2 None)
  pub closed_door : is_met (standing 1 (Some 3) false 1 None) (act.GoThrough 3 1 2) ≡ false

-- the edits, also where the room or the door's state is the one that was there
pub record EditFacts : Type 0 where
  pub robot : EditGives (standing 1 (Some 4) true 1 (Some 3)) (edit.Robot 2) (standing 2 None true 1 (Some 3))
  pub robot_same_room : EditGives (standing 1 (Some 4) true 1 (Some 3)) (edit.Robot 1) (standing 1 None true 1 (Some 3))
  pub box : EditGives (standing 1 (Some 4) true 1 (Some 3)) (edit.Box 4 2) (standing 1 None true 2 None)
  pub box_same_room : EditGives (standing 1 (Some 4) true 1 (Some 3)) (edit.Box 4 1) (standing 1 None true 1 None)
  pub box_elsewhere : EditGives (standing 1 (Some 3) true 1 (Some 3)) (edit.Box 4 2) (standing 1 (Some 3) true 2 None)
  pub door : EditGives (standing 1 (Some 3) true 1 None) (edit.Door 3 false) (standing 1 (Some 3) false 1 None)
  pub door_same : EditGives (standing 1 (Some 3) true 1 None) (edit.Door 3 true) (standing 1 (Some 3) true 1 None)
