-- A script's edits of rooms, and its building, are of its problem.
use Rattle.std.specs.Prelude.{◌≡◌, ◌<◌, ◌≤◌, ◌+◌, ℕ, true, false, Option, Some, None, IfSome, List, [], ◌∷◌, length, map, All, is_some}
use Rattle.std.specs.Option.{option_map}
use Rattle.std.proofs.Common.{zero, suc, refl, sym, ap, ◌∙◌, subst, arith}
use Rattle.std.proofs.lemmas.List.Elements.{All-cons, All-map, All-weaker}
use Rattle.std.proofs.lemmas.Option.{slice_get_within}
use Rattle.px_base.specs.Bounds.{u32_max}
use Rattle.px_names.specs.Lists.{NameLists}
use Rattle.px_terms.specs.declared.atom.Atom.{Atom}
use Rattle.px_terms.specs.declared.problem.Problem.{Problem}
use Rattle.px_terms.specs.declared.term.Term.{Term}
use Rattle.px_terms.specs.declared.term.Term.TheVariants.{Obj}
use Rattle.px_terms.specs.MergedNamesLaws.{one}
use Rattle.px_terms.specs.Validity.{IsAtomOf, IsTermOf}
use Rattle.px_terms.specs.ValidityLaws.{atom_of-is_ground}
use Rattle.px_world.specs.declared.edits.AtomEdit.{AtomEdit}
use Rattle.px_world.specs.declared.edits.AtomEdit.TheVariants.{Add, Remove}
use Rattle.px_world.specs.declared.edits.RoomEdit.{RoomEdit}
use Rattle.px_world.specs.declared.edits.RoomEdit.TheVariants as room_edit
use Rattle.px_world.specs.declared.thing.Thing.{Thing}
use Rattle.px_world.specs.Worlds.{IsGroundEdit}
use Rattle.px_rooms.specs.declared.building.Building.{Building}
use Rattle.px_rooms.specs.declared.standing.Standing.{Standing}
use Rattle.px_rooms.specs.declared.standing.Standing.TheVariants.{Room as a_room, Door as a_door, Box as a_box}
use Rattle.px_rooms.specs.Changes.{IsAdmitted, edit_schema}
use Rattle.px_rooms.specs.Domain.{building_problem, closed, in_room, opened_door}
use Rattle.px_rooms.specs.States.{RoomState, first_state, thing_at}
use Rattle.px_rooms.proofs.Starting.{objects_are}
use Rattle.px_script.specs.RangeLaws.{version-most}
use Rattle.px_script.specs.declared.limits.Limit.TheVariants as limit
use Rattle.px_script.specs.Limits.{greatest}
use Rattle.px_script.specs.Ranges.{AreRoomEditsOf, IsBuildingOf, IsEditOf}
use Rattle.px_session.specs.KeptSessions.{AreEditsToNote}
use Rattle.px_session.specs.OwnStates.{IsOwnEdit}
use Rattle.px_session.specs.RunWorlds.{IsWorldInBuilding, Takes}
use Rattle.px_session.specs.Sessions.{of_atoms, of_rooms}

-- the number of a thing is that of an object
inside : (things : List Standing) (n : ℕ) (here : Standing) → thing_at things n ≡ Some here → n < length things + 1
inside things zero here at = absurd (cc)
inside things (suc k) here at = let below = slice_get_within things k here at in omega (arith, below)

module _ (objects height nodes shapes : ℕ) where
  abbrev Belongs : Atom → Type 0
  Belongs = IsAtomOf (building_problem objects height nodes shapes) 0

  abbrev IsTerm : Term → Type 0
  IsTerm = IsTermOf (building_problem objects height nodes shapes) 0

  in-room : (x r : ℕ) → x < objects → r < objects → Belongs (in_room (Obj x) (Obj r))
  in-room x r p q = ((omega arith, refl), All-cons IsTerm (Obj x) (Obj r ∷ []) p (one IsTerm (Obj r) q))

  -- the new fact of an edit that is admitted is an atom of the building's problem
  edit-belongs : (state : RoomState) → objects ≡ length state.things + 1 → (edit : RoomEdit) → IsAdmitted state edit
      → All Belongs (edit_schema edit).add
  edit-belongs state count (room_edit.Robot r) is =
      let here = inside state.things r a_room is in
      one Belongs (in_room (Obj 0) (Obj r)) (in-room 0 r (omega (arith, count)) (omega (arith, count, here)))
  edit-belongs state count (room_edit.Box b r) is =
      let box = inside state.things b (a_box is.0.0 is.0.1) is.0.2 in
      let room = inside state.things r a_room is.1 in
      one Belongs (in_room (Obj b) (Obj r)) (in-room b r (omega (arith, count, box)) (omega (arith, count, room)))
  edit-belongs state count (room_edit.Door d true) is =
      let door = inside state.things d (a_door is.0 is.1 is.2) is.3 in
      one Belongs (opened_door (Obj d)) ((omega arith, refl), one IsTerm (Obj d) (omega (arith, count, door)))
  edit-belongs state count (room_edit.Door d false) is =
      let door = inside state.things d (a_door is.0 is.1 is.2) is.3 in
      one Belongs (closed (Obj d)) ((omega arith, refl), one IsTerm (Obj d) (omega (arith, count, door)))

-- what holds of a building holds of the one that is there
pub each-building : (P Q : List Thing → Type 0) (building : Option (List Thing)) → ((things : List Thing) → P things → Q things)
    → IfSome building P → IfSome building Q
each-building P Q None follows is = tt
each-building P Q (Some things) follows is = follows things is

-- the edits that the building admits are of the problem
abbrev pub OwnsRoomEdits : Problem → List Thing → Type 0
OwnsRoomEdits problem things = (edit : RoomEdit) → IsAdmitted (first_state things) edit → IsOwnEdit problem (of_rooms edit)

pub owns-room-edits : (names : NameLists) (problem : Problem) (facts : List Atom) (things : List Thing)
    → IsBuildingOf names problem facts things
    → OwnsRoomEdits problem things
owns-room-edits names problem facts things is edit admitted =
    subst (λ (p : Problem). All (IsAtomOf p 0) (edit_schema edit).add) (sym is.of_building)
    (edit-belongs (length names.objects) problem.height problem.nodes problem.shapes (first_state things) is.objects edit admitted)

-- ---- edits to note

edit-ground : (problem : Problem) (edit : AtomEdit) → IsEditOf problem edit → IsGroundEdit edit
edit-ground problem (Add atom) of = atom_of-is_ground problem atom of
edit-ground problem (Remove atom) of = atom_of-is_ground problem atom of

some-none : ¬ (true ≡ false)
some-none same = cc

-- the building as it stands at first, if there is one
abbrev pub at_first : Option (List Thing) → Option RoomState
at_first building = option_map first_state building

pub note-atoms : (problem : Problem) (building : Option (List Thing)) (edits : List AtomEdit) → is_some building ≡ false
    → All (IsEditOf problem) edits
    → AreEditsToNote problem (at_first building) (map of_atoms edits)
note-atoms problem None edits out of = record {
  own = All-map (IsOwnEdit problem) of_atoms edits of;
  taken = All-map (Takes None) of_atoms edits (All-weaker (IsEditOf problem) IsGroundEdit (edit-ground problem) edits of);
}
note-atoms problem (Some things) edits out of = absurd (some-none out)

pub note-rooms : (problem : Problem) (building : Option (List Thing)) (edits : List RoomEdit) → IfSome building (OwnsRoomEdits problem)
    → AreRoomEditsOf building edits → AreEditsToNote problem (at_first building) (map of_rooms edits)
note-rooms problem None edits owns of = absurd of
note-rooms problem (Some things) edits owns of = record {
  own = All-map (IsOwnEdit problem) of_rooms edits
      (All-weaker (IsAdmitted (first_state things)) (λ edit. IsOwnEdit problem (of_rooms edit)) owns edits of);
  taken = All-map (Takes (Some (first_state things))) of_rooms edits of;
}

-- ---- the building

-- the facts are the building's, and the problem has its rules
pub placed-first : (names : NameLists) (problem : Problem) (facts : List Atom) (building : Option (List Thing))
    → IfSome building (IsBuildingOf names problem facts)
    → IsWorldInBuilding problem facts (at_first building)
placed-first names problem facts None is = tt
placed-first names problem facts (Some things) is = (
  is.rendered,
  record {
    objects = sym is.objects ∙ ap (λ (p : Problem). p.objects) (sym is.of_building);
    axioms = ap (λ (p : Problem). p.axioms) (sym is.of_building);
    schemas = ap (λ (p : Problem). p.schemas) (sym is.of_building);
  },
)

-- the same of a building that was read
abbrev things_of : Option Building → Option (List Thing)
things_of building = option_map (λ building. building.things) building

pub first-read : (building : Option Building) → option_map (λ building. first_state building.things) building ≡ at_first
    (things_of building)
first-read None = refl
first-read (Some building) = refl

pub read-building : (P : List Thing → Type 0) (building : Option Building) → IfSome (things_of building) P
    → IfSome building (λ building. P building.things)
read-building P None is = tt
read-building P (Some building) is = is

-- its things are few
pub few-things : (version : ℕ) (names : NameLists) (problem : Problem) (facts : List Atom) (things : List Thing)
    → length names.objects ≤ greatest version limit.Objects → IsBuildingOf names problem facts things → length things < u32_max
few-things version names problem facts things few is =
    let most = version-most version (length names.objects) 256 1024 (omega arith) few in
    omega (arith, most, is.objects, objects_are things is.is_building.0)
