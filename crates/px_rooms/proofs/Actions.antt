-- Each action and each edit: the facts that it leaves, and that it leaves a state.
use Rattle.std.specs.Prelude.{◌≡◌, ◌⊎◌, ◌↔◌, ◌≤◌, ◌+◌, ◌==◌, ℕ, Bool, true, false, Option, Some, None, List, [], length, map, slice_get, if◌then◌else◌}
use Rattle.std.proofs.Common.{zero, suc, refl, sym, ap, ◌∙◌, subst, inl, inr, arith}
use Rattle.std.proofs.lemmas.List.{length-set}
use Rattle.px_base.specs.ListLaws.{All-at}
use Rattle.px_terms.specs.declared.atom.Atom.{Atom}
use Rattle.px_terms.specs.OperatorLaws.{result_by-length}
use Rattle.px_terms.specs.Operators.{atoms_of, result_of}
use Rattle.px_world.specs.declared.edits.RoomEdit.{RoomEdit}
use Rattle.px_world.specs.declared.edits.RoomEdit.TheVariants as edit
use Rattle.px_world.specs.Worlds.{EditsAddOne}
use Rattle.px_rooms.specs.declared.action.RoomAction.{RoomAction}
use Rattle.px_rooms.specs.declared.action.RoomAction.TheVariants as act
use Rattle.px_rooms.specs.declared.standing.Standing.{Standing}
use Rattle.px_rooms.specs.declared.standing.Standing.TheVariants.{Door as a_door, Box as a_box}
use Rattle.px_rooms.specs.Changes.{IsAdmitted, acted, edit_schema, facts_edited, instance_of_action, parted_from, put_beside, put_into, state_edited, things_with, turned, with_changed_thing}
use Rattle.px_rooms.specs.Domain.{building_problem, in_room, robot}
use Rattle.px_rooms.specs.Following.{ActionsAreResults, EditsAreEdits, IsMet}
use Rattle.px_rooms.specs.States.{IsBoxAt, IsBoxOrDoorOrNone, IsDoorAt, IsRoomAt, IsRoomState, RoomState, StandsRight, building_rules, rendering}
use Rattle.px_rooms.proofs.Effects.{has_at}
use Rattle.px_rooms.proofs.ThingKinds.{admitted-same, kind_of}
use Rattle.px_rooms.proofs.Kept.{KeepsKinds, all-right, box-stays, door-stays, put_beside-keeps, put_into-keeps, robot-stays, room-stays, same-kinds, turned-keeps, was-right}
use Rattle.px_rooms.proofs.Steps.{beside-facts, box-facts, door-facts, into-facts, push-through-facts, push-to-facts}
use Rattle.px_rooms.proofs.Telling.{IsBetween, box-fact, connects-fact, door-fact}

-- ---- what is left is a state of the building

-- the state has as many things, each number names a thing of the kind that is wanted there
pub record IsLeft (old new : RoomState) : Type 0 where
  pub state : IsRoomState new
  pub count : length new.things ≡ length old.things
  pub kinds : map kind_of new.things ≡ map kind_of old.things

between-door : (state : RoomState) (d x y : ℕ) → IsBetween state d x y → IsDoorAt state.things d
between-door state d x y (is_open, inl is) = (x, y, is_open, is)
between-door state d x y (is_open, inr is) = (y, x, is_open, is)

-- both rooms of a door are rooms
between-room : (state : RoomState) (d x y : ℕ) → IsRoomState state → IsBetween state d x y → IsRoomAt state.things y
between-room state zero x y is (is_open, inl at) = absurd (cc)
between-room state zero x y is (is_open, inr at) = absurd (cc)
between-room state (suc k) x y is (is_open, inl at) =
    (All-at (StandsRight state.things) state.things (a_door x y is_open) is.things (has_at state.things k (a_door x y is_open) at)).1
between-room state (suc k) x y is (is_open, inr at) =
    (All-at (StandsRight state.things) state.things (a_door y x is_open) is.things (has_at state.things k (a_door y x is_open) at)).0

beside-left : (state : RoomState) (x : ℕ) → IsRoomState state → IsBoxAt state.things x ⊎ IsDoorAt state.things x
    → IsLeft state (record state { robot_beside = Some x })
beside-left state x is at =
    record { state = record { robot_room = is.robot_room; robot_beside = at; things = is.things }; count = refl; kinds = refl }

into-left : (state : RoomState) (r : ℕ) → IsRoomState state → IsRoomAt state.things r → IsLeft state (state_edited (edit.Robot r) state)
into-left state r is at = record { state = record { robot_room = at; robot_beside = tt; things = is.things }; count = refl; kinds = refl }

-- one thing changes, and the robot may too
thing-left : (state : RoomState) (t : ℕ) (change : Standing → Standing) (was : Standing) (room : ℕ) (beside : Option ℕ) → KeepsKinds change
    → IsRoomState state → slice_get state.things t ≡ Some was
    → IsRoomAt (things_with (suc t) change state.things) room → IsBoxOrDoorOrNone (things_with (suc t) change state.things) beside
    → StandsRight (things_with (suc t) change state.things) (change was)
    → IsLeft state (record { robot_room = room; robot_beside = beside; things = things_with (suc t) change state.things })
thing-left state t change was room beside keeps is here in_room is_beside right = record {
  state =
      record { robot_room = in_room; robot_beside = is_beside; things = all-right change keeps state.things t was here is.things right };
  count = length-set state.things t _;
  kinds = same-kinds change keeps state.things t was here;
}

turned-left : (state : RoomState) (t x y : ℕ) (was is_open : Bool) → IsRoomState state → slice_get state.things t ≡ Some (a_door x y was)
    → IsLeft state (with_changed_thing (suc t) (turned is_open) state)
turned-left state t x y was is_open is here =
    let keeps = turned-keeps is_open in
    let right = was-right (turned is_open) keeps state.things t (a_door x y was) here is.things in
    let room = room-stays (turned is_open) keeps state.things t (a_door x y was) here in
    thing-left state t (turned is_open) (a_door x y was) state.robot_room state.robot_beside keeps is here
    (room state.robot_room is.robot_room)
    (robot-stays (turned is_open) keeps state.things t (a_door x y was) here state.robot_beside is.robot_beside)
    (room x right.0, room y right.1, right.2)

push-to-left : (state : RoomState) (t r d : ℕ) (beside : Option ℕ) → IsRoomState state → slice_get state.things t ≡ Some (a_box r beside)
    → IsDoorAt state.things d
    → IsLeft state (record (with_changed_thing (suc t) (put_beside d) state) { robot_beside = Some (suc t) })
push-to-left state t r d beside is here at =
    let keeps = put_beside-keeps d in
    let right = was-right (put_beside d) keeps state.things t (a_box r beside) here is.things in
    let room = room-stays (put_beside d) keeps state.things t (a_box r beside) here in
    thing-left state t (put_beside d) (a_box r beside) state.robot_room (Some (suc t)) keeps is here (room state.robot_room is.robot_room)
    (inl (box-stays (put_beside d) keeps state.things t (a_box r beside) here (suc t) (r, beside, here)))
    (room r right.0, door-stays (put_beside d) keeps state.things t (a_box r beside) here d at)

push-through-left : (state : RoomState) (t r s : ℕ) (beside : Option ℕ) → IsRoomState state
    → slice_get state.things t ≡ Some (a_box r beside) → IsRoomAt state.things s
    → IsLeft state (record (with_changed_thing (suc t) (put_into s) state) { robot_room = s; robot_beside = Some (suc t) })
push-through-left state t r s beside is here at =
    let keeps = put_into-keeps s in
    let room = room-stays (put_into s) keeps state.things t (a_box r beside) here in
    thing-left state t (put_into s) (a_box r beside) s (Some (suc t)) keeps is here (room s at)
    (inl (box-stays (put_into s) keeps state.things t (a_box r beside) here (suc t) (r, beside, here))) (room s at, tt)

parted-beside : (things : List Standing) (b : ℕ) (beside : Option ℕ) → IsBoxOrDoorOrNone things beside
    → IsBoxOrDoorOrNone things (parted_from b beside)
parted-beside things b None is = tt
parted-beside things b (Some x) is =
    elim (x == b) as (λ t. IsBoxOrDoorOrNone things (if t then None else Some x)) [ true ↦ tt | false ↦ is ]

box-left : (state : RoomState) (t old r : ℕ) (beside : Option ℕ) → IsRoomState state → slice_get state.things t ≡ Some (a_box old beside)
    → IsRoomAt state.things r
    → IsLeft state (state_edited (edit.Box (suc t) r) state)
box-left state t old r beside is here at =
    let keeps = put_into-keeps r in
    let room = room-stays (put_into r) keeps state.things t (a_box old beside) here in
    thing-left state t (put_into r) (a_box old beside) state.robot_room (parted_from (suc t) state.robot_beside) keeps is here
    (room state.robot_room is.robot_room)
    (parted-beside _ (suc t) state.robot_beside (robot-stays (put_into r) keeps state.things t
    (a_box old beside) here state.robot_beside is.robot_beside)) (room r at, tt)

-- ---- edits

pub record EditLeaves (state : RoomState) (one : RoomEdit) : Type 0 where
  pub left : IsLeft state (state_edited one state)
  pub facts : rendering (state_edited one state) ≡ facts_edited one (rendering state)

pub edit-leaves : (state : RoomState) (one : RoomEdit) → IsRoomState state → IsAdmitted state one → EditLeaves state one
edit-leaves state (edit.Robot r) is admitted = record { left = into-left state r is admitted; facts = into-facts state r }
edit-leaves state (edit.Box zero r) is ((old, beside, here), at) = absurd (cc)
edit-leaves state (edit.Box (suc t) r) is ((old, beside, here), at) =
    record { left = box-left state t old r beside is here at; facts = box-facts t r state old beside here }
edit-leaves state (edit.Door zero is_open) is (x, y, was, here) = absurd (cc)
edit-leaves state (edit.Door (suc t) is_open) is (x, y, was, here) =
    record { left = turned-left state t x y was is_open is here; facts = door-facts state t x y was is_open here }

-- ---- actions

pub record ActionLeaves (state : RoomState) (one : RoomAction) : Type 0 where
  pub left : IsLeft state (acted one state)
  pub facts : rendering (acted one state) ≡ result_of (building_rules state) (rendering state) (instance_of_action one)

module _ (state : RoomState) (is : IsRoomState state) where
  -- some atom
  abbrev any : Atom
  any = in_room robot robot

  go-to-box : (b r : ℕ) → IsMet state (instance_of_action (act.GoToBox b r)) → ActionLeaves state (act.GoToBox b r)
  go-to-box b r met =
      record { left = beside-left state b is (inl (box-fact state b (met 0 any (omega arith)))); facts = beside-facts state b }

  go-to-door : (d r s : ℕ) → IsMet state (instance_of_action (act.GoToDoor d r s)) → ActionLeaves state (act.GoToDoor d r s)
  go-to-door d r s met =
      record {
        left = beside-left state d is (inr (between-door state d r s (connects-fact state d r s (met 1 any (omega arith)))));
        facts = beside-facts state d;
      }

  turn-open : (d : ℕ) → IsDoorAt state.things d → ActionLeaves state (act.Open d)
  turn-open zero (x, y, was, here) = absurd (cc)
  turn-open (suc t) (x, y, was, here) =
      record { left = turned-left state t x y was true is here; facts = door-facts state t x y was true here }

  turn-closed : (d : ℕ) → IsDoorAt state.things d → ActionLeaves state (act.Close d)
  turn-closed zero (x, y, was, here) = absurd (cc)
  turn-closed (suc t) (x, y, was, here) =
      record { left = turned-left state t x y was false is here; facts = door-facts state t x y was false here }

  go-through : (d r s : ℕ) → IsMet state (instance_of_action (act.GoThrough d r s)) → ActionLeaves state (act.GoThrough d r s)
  go-through d r s met =
      record {
        left = into-left state s is (between-room state d r s is (connects-fact state d r s (met 0 any (omega arith))));
        facts = into-facts state s;
      }

  push-to : (b d r s : ℕ) → IsBoxAt state.things b → IsDoorAt state.things d → ActionLeaves state (act.PushToDoor b d r s)
  push-to zero d r s (old, beside, here) at = absurd (cc)
  push-to (suc t) d r s (old, beside, here) at =
      record { left = push-to-left state t old d beside is here at; facts = push-to-facts state t old d beside here }

  push-through : (b d r s : ℕ) → IsBoxAt state.things b → IsRoomAt state.things s → ActionLeaves state (act.PushThrough b d r s)
  push-through zero d r s (old, beside, here) at = absurd (cc)
  push-through (suc t) d r s (old, beside, here) at =
      record { left = push-through-left state t old s beside is here at; facts = push-through-facts state t old s beside here }

  pub action-leaves : (one : RoomAction) → IsMet state (instance_of_action one) → ActionLeaves state one
  action-leaves (act.GoToBox b r) met = go-to-box b r met
  action-leaves (act.GoToDoor d r s) met = go-to-door d r s met
  action-leaves (act.Open d) met = turn-open d (door-fact state d (met 0 any (omega arith)))
  action-leaves (act.Close d) met = turn-closed d (door-fact state d (met 0 any (omega arith)))
  action-leaves (act.GoThrough d r s) met = go-through d r s met
  action-leaves (act.PushToDoor b d r s) met =
      push-to b d r s (box-fact state b (met 0 any (omega arith)))
      (between-door state d r s (connects-fact state d r s (met 4 any (omega arith))))
  action-leaves (act.PushThrough b d r s) met =
      push-through b d r s (box-fact state b (met 0 any (omega arith)))
      (between-room state d r s is (connects-fact state d r s (met 3 any (omega arith))))

-- ---- the laws

pub actions-follow : ActionsAreResults
actions-follow state one is met = let leaves = action-leaves state is one met in (leaves.left.state, leaves.facts)

pub edits-follow : EditsAreEdits
edits-follow state one is admitted = let leaves = edit-leaves state one is admitted in (leaves.left.state, leaves.facts)

-- ---- how many facts there are after an edit, and which edits are admitted then

added-one : (one : RoomEdit) → length (atoms_of (edit_schema one).add (record { op = 0; args = [] })) ≡ 1
added-one (edit.Robot r) = refl
added-one (edit.Box b r) = refl
added-one (edit.Door d true) = refl
added-one (edit.Door d false) = refl

pub edits_add_one : EditsAddOne facts_edited
edits_add_one one facts =
    let most = result_by-length (edit_schema one) facts (record { op = 0; args = [] }) in
    omega (arith, most, added-one one)

pub edit-number : (one : RoomEdit) (old new : RoomState) → rendering new ≡ facts_edited one (rendering old)
    → length (rendering new) ≤ length (rendering old) + 1
edit-number one old new is =
    let most = edits_add_one one (rendering old) in
    omega (arith, ap length is, most)

pub left-admits : (old left new : RoomState) → new ≡ left → IsLeft old left → (one : RoomEdit) → IsAdmitted new one ↔ IsAdmitted old one
left-admits old left new is kept =
    admitted-same old new (subst (λ (s : RoomState). map kind_of s.things ≡ map kind_of old.things) (sym is) kept.kinds)

pub left-rules : (old left new : RoomState) → new ≡ left → IsLeft old left → building_rules new ≡ building_rules old
left-rules old left new is kept = ap (λ n. building_problem (n + 1) 1 1 2) (ap (λ (s : RoomState). length s.things) is ∙ kept.count)
