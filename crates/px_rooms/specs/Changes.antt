-- What actions and edits change in a building, and what an edit leaves of the facts.
use Rattle.std.specs.Prelude.{◌≡◌, ℕ, ◌==◌, Bool, true, false, Option, Some, None, List, [], ◌∷◌, set, slice_index_or, if◌then◌else◌}
use Rattle.std.proofs.Common.{zero, suc}
use Rattle.px_terms.specs.declared.atom.Atom.{Atom}
use Rattle.px_terms.specs.declared.instance.OpInst.{OpInst}
use Rattle.px_terms.specs.declared.problem.Schema.{Schema}
use Rattle.px_terms.specs.declared.term.Term.TheVariants.{Obj, Any as WildCard}
use Rattle.px_terms.specs.Operators.{result_by}
use Rattle.px_world.specs.declared.edits.RoomEdit.{RoomEdit}
use Rattle.px_world.specs.declared.edits.RoomEdit.TheVariants as edit
use Rattle.px_terms.specs.Problems.{schema_without_sorts}
use Rattle.px_rooms.specs.Domain.{closed, in_room, next_to, opened_door, robot}
use Rattle.px_rooms.specs.declared.action.RoomAction.{RoomAction}
use Rattle.px_rooms.specs.declared.action.RoomAction.TheVariants as act
use Rattle.px_rooms.specs.declared.standing.Standing.{Standing}
use Rattle.px_rooms.specs.declared.standing.Standing.TheVariants.{Room as a_room, Door as a_door, Box as a_box}
use Rattle.px_rooms.specs.declared.change.ThingChange.{ThingChange}
use Rattle.px_rooms.specs.declared.change.ThingChange.TheVariants.{Turned, Beside, Into}
use Rattle.px_rooms.specs.States.{IsBoxAt, IsDoorAt, IsRoomAt, RoomState}

-- ---- changes of a thing

-- the thing of that number changed
abbrev pub things_with : ℕ → (Standing → Standing) → List Standing → List Standing
things_with zero change things = things
things_with (suc k) change things = set things k (change (slice_index_or things k a_room))

abbrev pub with_changed_thing : ℕ → (Standing → Standing) → RoomState → RoomState
with_changed_thing number change state = record state { things = things_with number change state.things }

-- a door is opened or closed
abbrev pub turned : Bool → Standing → Standing
turned is_open a_room = a_room
turned is_open (a_door x y old) = a_door x y is_open
turned is_open (a_box r beside) = a_box r beside

-- a box is beside a door
abbrev pub put_beside : ℕ → Standing → Standing
put_beside d a_room = a_room
put_beside d (a_door x y is_open) = a_door x y is_open
put_beside d (a_box r beside) = a_box r (Some d)

-- a box is put into a room, beside no door
abbrev pub put_into : ℕ → Standing → Standing
put_into r a_room = a_room
put_into r (a_door x y is_open) = a_door x y is_open
put_into r (a_box old beside) = a_box r None

-- what that change makes of a thing
abbrev pub changed_by : ThingChange → Standing → Standing
changed_by (Turned is_open) = turned is_open
changed_by (Beside d) = put_beside d
changed_by (Into r) = put_into r

-- ---- actions

-- what the action changes where its precondition is true
abbrev pub acted : RoomAction → RoomState → RoomState
acted (act.GoToBox b r) state = record state { robot_beside = Some b }
acted (act.GoToDoor d r s) state = record state { robot_beside = Some d }
acted (act.Open d) state = with_changed_thing d (turned true) state
acted (act.Close d) state = with_changed_thing d (turned false) state
acted (act.GoThrough d r s) state = record state { robot_room = s; robot_beside = None }
acted (act.PushToDoor b d r s) state = record (with_changed_thing b (put_beside d) state) { robot_beside = Some b }
acted (act.PushThrough b d r s) state = record (with_changed_thing b (put_into s) state) { robot_room = s; robot_beside = Some b }

-- the action as an instance of its operator
abbrev pub instance_of_action : RoomAction → OpInst
instance_of_action (act.GoToBox b r) = record { op = 0; args = Obj b ∷ Obj r ∷ [] }
instance_of_action (act.GoToDoor d r s) = record { op = 1; args = Obj d ∷ Obj r ∷ Obj s ∷ [] }
instance_of_action (act.Open d) = record { op = 2; args = Obj d ∷ [] }
instance_of_action (act.Close d) = record { op = 3; args = Obj d ∷ [] }
instance_of_action (act.GoThrough d r s) = record { op = 4; args = Obj d ∷ Obj r ∷ Obj s ∷ [] }
instance_of_action (act.PushToDoor b d r s) = record { op = 5; args = Obj b ∷ Obj d ∷ Obj r ∷ Obj s ∷ [] }
instance_of_action (act.PushThrough b d r s) = record { op = 6; args = Obj b ∷ Obj d ∷ Obj r ∷ Obj s ∷ [] }

-- the new state is what the action with that instance leaves
pub record IsMoved (inst : OpInst) (old new : RoomState) : Type 0 where
  pub action : RoomAction
  pub by_action : inst ≡ instance_of_action action
  pub left : new ≡ acted action old

-- ---- edits

-- what it was beside, unless that is this thing
abbrev pub parted_from : ℕ → Option ℕ → Option ℕ
parted_from b None = None
parted_from b (Some x) = if x == b then None else Some x

-- the state that an edit leaves
abbrev pub state_edited : RoomEdit → RoomState → RoomState
state_edited (edit.Robot r) state = record state { robot_room = r; robot_beside = None }
state_edited (edit.Box b r) state = record (with_changed_thing b (put_into r) state) { robot_beside = parted_from b state.robot_beside }
state_edited (edit.Door d is_open) state = with_changed_thing d (turned is_open) state

-- its numbers name things of the kinds that are wanted
abbrev pub IsAdmitted : RoomState → RoomEdit → Type 0
IsAdmitted state (edit.Robot r) = IsRoomAt state.things r
IsAdmitted state (edit.Box b r) = IsBoxAt state.things b × IsRoomAt state.things r
IsAdmitted state (edit.Door d is_open) = IsDoorAt state.things d

-- a change of the facts, as an operator that needs nothing: what it deletes, and what it adds
abbrev pub change_of_facts : List Atom → List Atom → Schema
change_of_facts del add = schema_without_sorts 0 0 [] del add

abbrev pub edit_schema : RoomEdit → Schema
edit_schema (edit.Robot r) = change_of_facts (in_room robot WildCard ∷ next_to robot WildCard ∷ []) (in_room robot (Obj r) ∷ [])
edit_schema (edit.Box b r) = change_of_facts (in_room (Obj b) WildCard ∷ next_to (Obj b) WildCard ∷ next_to robot (Obj b) ∷ [])
    (in_room (Obj b) (Obj r) ∷ [])
edit_schema (edit.Door d true) = change_of_facts (closed (Obj d) ∷ []) (opened_door (Obj d) ∷ [])
edit_schema (edit.Door d false) = change_of_facts (opened_door (Obj d) ∷ []) (closed (Obj d) ∷ [])

-- the facts that an edit leaves
abbrev pub facts_edited : RoomEdit → List Atom → List Atom
facts_edited one facts = result_by (edit_schema one) facts (record { op = 0; args = [] })
