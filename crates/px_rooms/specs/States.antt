-- Buildings: their states, and the facts of a state.
use Rattle.std.specs.Prelude.{◌≡◌, ◌≢◌, ◌<◌, ◌⊎◌, ◌+◌, ℕ, Bool, true, false, Option, Some, None, List, [], ◌∷◌, ◌++◌, length, All, slice_get, slice_index}
use Rattle.std.proofs.Common.{zero, suc}
use Rattle.px_base.specs.Bounds.{u32_max}
use Rattle.px_terms.specs.declared.atom.Atom.{Atom}
use Rattle.px_terms.specs.declared.problem.Problem.{Problem}
use Rattle.px_terms.specs.declared.term.Term.TheVariants.{Obj}
use Rattle.px_terms.specs.AtomSets.{atom_set}
use Rattle.px_world.specs.declared.thing.Thing.{Thing}
use Rattle.px_world.specs.declared.thing.Thing.TheVariants as thing
use Rattle.px_rooms.specs.declared.standing.Standing.{Standing}
use Rattle.px_rooms.specs.declared.standing.Standing.TheVariants.{Room as a_room, Door as a_door, Box as a_box}
use Rattle.px_rooms.specs.Domain.{building_problem, closed, connects, in_room, is_box, is_door, is_room, next_to, opened_door, robot}

-- the robot's room, the box or door that it is beside, and the things by their numbers, which begin with 1
pub record RoomState : Type 0 where
  pub robot_room : ℕ
  pub robot_beside : Option ℕ
  pub things : List Standing

-- Alike: `step_at` of `px_table`, of another list that is counted from 1.
-- the robot, number 0, is no thing
abbrev pub thing_at : List Standing → ℕ → Option Standing
thing_at things zero = None
thing_at things (suc k) = slice_get things k

abbrev pub IsRoomAt : List Standing → ℕ → Type 0
IsRoomAt things number = thing_at things number ≡ Some a_room

abbrev pub IsDoorAt : List Standing → ℕ → Type 0
IsDoorAt things number = (x : ℕ) × (y : ℕ) × (is_open : Bool) × (thing_at things number ≡ Some (a_door x y is_open))

abbrev pub IsBoxAt : List Standing → ℕ → Type 0
IsBoxAt things number = (r : ℕ) × (beside : Option ℕ) × (thing_at things number ≡ Some (a_box r beside))

-- what a box may be beside, and what the robot may be beside
abbrev pub IsDoorOrNone : List Standing → Option ℕ → Type 0
IsDoorOrNone things None = Unit {0}
IsDoorOrNone things (Some number) = IsDoorAt things number

abbrev pub IsBoxOrDoorOrNone : List Standing → Option ℕ → Type 0
IsBoxOrDoorOrNone things None = Unit {0}
IsBoxOrDoorOrNone things (Some number) = IsBoxAt things number ⊎ IsDoorAt things number

abbrev pub StandsRight : List Standing → Standing → Type 0
StandsRight things a_room = Unit {0}
StandsRight things (a_door x y is_open) = IsRoomAt things x × IsRoomAt things y × (x ≢ y)
StandsRight things (a_box r beside) = IsRoomAt things r × IsDoorOrNone things beside

-- each number names a thing of the kind that is wanted there, and no door has one room on both sides
pub record IsRoomState (state : RoomState) : Type 0 where
  pub robot_room : IsRoomAt state.things state.robot_room
  pub robot_beside : IsBoxOrDoorOrNone state.things state.robot_beside
  pub things : All (StandsRight state.things) state.things

-- ---- the first state of a building

-- the things as they stand at first, without the robot
abbrev pub standings : List Thing → List Standing
standings [] = []
standings (thing.Room ∷ things) = a_room ∷ standings things
standings (thing.Door a b is_open ∷ things) = a_door a b is_open ∷ standings things
standings (thing.Box r ∷ things) = a_box r None ∷ standings things
standings (thing.Robot r ∷ things) = standings things

-- the rooms of the robots that are listed
abbrev pub robot_rooms : List Thing → List ℕ
robot_rooms [] = []
robot_rooms (thing.Room ∷ things) = robot_rooms things
robot_rooms (thing.Door a b is_open ∷ things) = robot_rooms things
robot_rooms (thing.Box r ∷ things) = robot_rooms things
robot_rooms (thing.Robot r ∷ things) = r ∷ robot_rooms things

-- nothing is beside anything
abbrev pub first_state : List Thing → RoomState
first_state things = record { robot_room = slice_index (robot_rooms things) 0; robot_beside = None; things = standings things }

-- there is one robot, each number names a thing of the kind that is wanted there, and no door has one room on both sides
abbrev pub IsBuilding : List Thing → Type 0
IsBuilding things = (length (robot_rooms things) ≡ 1) × IsRoomState (first_state things)

-- ---- the facts of a state

abbrev pub beside_atoms : ℕ → Option ℕ → List Atom
beside_atoms x None = []
beside_atoms x (Some y) = next_to (Obj x) (Obj y) ∷ []

abbrev pub door_atom : ℕ → Bool → Atom
door_atom d true = opened_door (Obj d)
door_atom d false = closed (Obj d)

-- the facts about the thing of that number
abbrev pub thing_atoms : ℕ → Standing → List Atom
thing_atoms k a_room = is_room (Obj k) ∷ []
thing_atoms k (a_door x y is_open) = is_door (Obj k) ∷ connects (Obj k) (Obj x) (Obj y) ∷ connects (Obj k) (Obj y) (Obj x) ∷ door_atom k
    is_open ∷ []
thing_atoms k (a_box r beside) = is_box (Obj k) ∷ in_room (Obj k) (Obj r) ∷ beside_atoms k beside

-- the facts about the robot
abbrev pub robot_atoms : RoomState → List Atom
robot_atoms state = in_room robot (Obj state.robot_room) ∷ beside_atoms 0 state.robot_beside

-- the facts about the things from that number on
abbrev pub atoms_from : ℕ → List Standing → List Atom
atoms_from k [] = []
atoms_from k (one ∷ things) = thing_atoms k one ++ atoms_from (k + 1) things

-- all facts of a state, the robot's first
abbrev pub all_atoms : RoomState → List Atom
all_atoms state = robot_atoms state ++ atoms_from 1 state.things

-- all that is true in the state, ascending
abbrev pub rendering : RoomState → List Atom
rendering state = atom_set (all_atoms state)

-- a problem with the building's objects, axiom and operators; its limits are the least
abbrev pub building_rules : RoomState → Problem
building_rules state = building_problem (length state.things + 1) 1 1 2

-- a world of a building: a problem with its rules, and its state
pub record IsRoomWorld (problem : Problem) (state : RoomState) : Type 0 where
  pub is_state : IsRoomState state
  pub rules : problem ≡ building_rules state
  pub few : length state.things + 1 < u32_max
