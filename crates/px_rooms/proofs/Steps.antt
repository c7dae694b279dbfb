-- What each change of a state does to its facts.
use Rattle.std.specs.Prelude.{◌≡◌, ◌≢◌, ◌⊎◌, ◌==◌, ℕ, Bool, true, false, Option, Some, None, List, [], ◌∷◌, slice_get, Contains, if◌then◌else◌}
use Rattle.std.proofs.Common.{suc, refl, sym, subst, inl, inr, arith}
use Rattle.std.specs.List.{AllByRecursion}
use Rattle.std.proofs.lemmas.Bool.{eqb-true}
use Rattle.px_terms.specs.declared.atom.Atom.{Atom}
use Rattle.px_terms.specs.declared.instance.OpInst.{OpInst}
use Rattle.px_terms.specs.declared.problem.Schema.{Schema}
use Rattle.px_terms.specs.declared.term.Term.TheVariants.{Obj, Any as WildCard}
use Rattle.px_terms.specs.Operators.{atoms_of, is_deleted, result_by}
use Rattle.px_world.specs.declared.edits.RoomEdit.TheVariants as edit
use Rattle.px_rooms.specs.declared.standing.Standing.TheVariants.{Door as a_door, Box as a_box}
use Rattle.px_rooms.specs.Changes.{change_of_facts, edit_schema, facts_edited, parted_from, put_beside, put_into, state_edited, turned, with_changed_thing}
use Rattle.px_rooms.specs.Domain.{in_room, next_to, robot}
use Rattle.px_rooms.specs.States.{RoomState, beside_atoms, door_atom, rendering, robot_atoms, thing_atoms}
use Rattle.px_rooms.proofs.About.{all-about}
use Rattle.px_rooms.proofs.Effects.{Changes, IsSpared, other-number, same-facts, same-number}
use Rattle.px_rooms.proofs.Touched.{changed-here, changed-there, differing, robot-result, thing-result}

-- the instance of a change that needs nothing
abbrev pub no_objects : OpInst
no_objects = record { op = 0; args = [] }

-- what the facts are after a change
abbrev pub changed : List Atom → List Atom → List Atom → List Atom
changed del add facts = result_by (change_of_facts del add) facts no_objects

abbrev Alters : List Atom → List Atom → List Atom → List Atom → Type 0
Alters del add before after = Changes (change_of_facts del add) no_objects before after

robot_not_thing : (k : ℕ) → 0 ≢ suc k
robot_not_thing k e = omega (arith, e)

thing_not_robot : (k : ℕ) → suc k ≢ 0
thing_not_robot k e = omega (arith, e)

thing_not_thing : (k t : ℕ) → k ≢ t → suc t ≢ suc k
thing_not_thing k t differ e = differ (omega (arith, e))

-- what is so of each thing beside which one stands
beside-all : (P : Atom → Type 0) (k : ℕ) (beside : Option ℕ) → ((x : ℕ) → P (next_to (Obj k) (Obj x)))
    → AllByRecursion P (beside_atoms k beside)
beside-all P k None each = tt
beside-all P k (Some x) each = (each x, tt)

-- ---- the robot goes beside something

pub beside-facts : (state : RoomState) (x : ℕ)
    → rendering (record state { robot_beside = Some x })
    ≡ changed (next_to robot WildCard ∷ []) (next_to robot (Obj x) ∷ []) (rendering state)
beside-facts state x =
    robot-result (change_of_facts (next_to robot WildCard ∷ []) (next_to robot (Obj x) ∷ [])) no_objects state
    (record state { robot_beside = Some x }) refl
    (λ k. ((0, (WildCard ∷ [], refl), robot_not_thing k), tt))
    (record {
      comes = (inl ((0, omega arith, refl), refl), (inr ((0, omega arith, refl)), tt));
      goes = (inr ((0, omega arith, refl)), beside-all _ 0 state.robot_beside (λ y. inl refl));
    })
    ((1, omega arith, refl), tt)

-- ---- the robot comes into a room

pub into-facts : (state : RoomState) (r : ℕ) → rendering (state_edited (edit.Robot r) state) ≡ facts_edited (edit.Robot r) (rendering state)
into-facts state r = robot-result (edit_schema (edit.Robot r)) no_objects state (state_edited (edit.Robot r) state) refl
    (λ k. ((0, (WildCard ∷ [], refl), robot_not_thing k), ((0, (WildCard ∷ [], refl), robot_not_thing k), tt)))
    (record { comes = (inr ((0, omega arith, refl)), tt); goes = (inl refl, beside-all _ 0 state.robot_beside (λ y. inl refl)) })
    ((0, omega arith, refl), tt)

-- ---- a door is opened or closed

door-comes : (d x y : ℕ) (was is : Bool)
    → AllByRecursion (λ a. (Contains (thing_atoms d (a_door x y was)) a × (is_deleted (edit_schema (edit.Door d is)) no_objects a ≡ false))
    ⊎ Contains (door_atom d is ∷ []) a) (thing_atoms d (a_door x y is))
door-comes d x y was true = (
  inl ((0, omega arith, refl), refl),
  (inl ((1, omega arith, refl), refl), (inl ((2, omega arith, refl), refl), (inr (0, omega arith, refl), tt))),
)
door-comes d x y was false = (
  inl ((0, omega arith, refl), refl),
  (inl ((1, omega arith, refl), refl), (inl ((2, omega arith, refl), refl), (inr (0, omega arith, refl), tt))),
)

door-goes : (d x y : ℕ) (was is : Bool)
    → AllByRecursion (λ a. (is_deleted (edit_schema (edit.Door d is)) no_objects a ≡ true) ⊎ Contains (thing_atoms d (a_door x y is)) a)
    (thing_atoms d (a_door x y was))
door-goes d x y was is = (inr (0, omega arith, refl), (inr (1, omega arith, refl), (inr (2, omega arith, refl), (last was is, tt)))) where
  last : (was is : Bool) → (is_deleted (edit_schema (edit.Door d is)) no_objects (door_atom d was) ≡ true)
      ⊎ Contains (thing_atoms d (a_door x y is)) (door_atom d was)
  last true true = inr (3, omega arith, refl)
  last true false = inl (rw (same-number d) refl)
  last false true = inl (rw (same-number d) refl)
  last false false = inr (3, omega arith, refl)

door-adds : (d : ℕ) (is : Bool) → door_atom d is ∷ [] ≡ atoms_of (edit_schema (edit.Door d is)).add no_objects
door-adds d true = refl
door-adds d false = refl

door-spares : (t k : ℕ) (is : Bool) → suc t ≢ k → IsSpared (edit_schema (edit.Door (suc t) is)) no_objects k
door-spares t k true differ = ((suc t, ([], refl), differ), tt)
door-spares t k false differ = ((suc t, ([], refl), differ), tt)

pub door-facts : (state : RoomState) (t x y : ℕ) (was is : Bool) → slice_get state.things t ≡ Some (a_door x y was)
    → rendering (state_edited (edit.Door (suc t) is) state) ≡ facts_edited (edit.Door (suc t) is) (rendering state)
door-facts state t x y was is here =
    let schema = edit_schema (edit.Door (suc t) is) in
    let new = state_edited (edit.Door (suc t) is) state in
    let before = thing_atoms (suc t) (a_door x y was) in
    let after = thing_atoms (suc t) (a_door x y is) in
    thing-result schema no_objects state new t (a_door x y was) (a_door x y is) here
    (changed-here (turned is) state.things t (a_door x y was) here)
    (changed-there (turned is) state.things t) (λ k differ. door-spares t (suc k) is (thing_not_thing k t differ))
    (same-facts schema no_objects 0 (robot_atoms state) (door-spares t 0 is (thing_not_robot t)) (all-about state 0))
    (record {
      comes =
          subst (λ adds. AllByRecursion (λ a. (Contains before a × (is_deleted schema no_objects a ≡ false)) ⊎ Contains adds a) after)
          (door-adds (suc t) is) (door-comes (suc t) x y was is);
      goes = door-goes (suc t) x y was is;
    })
    (subst (λ adds. AllByRecursion (λ a. Contains (robot_atoms new) a ⊎ Contains after a) adds) (door-adds (suc t) is)
    (inr (3, omega arith, refl), tt))

-- ---- a box is pushed to a door

abbrev pushed_to : ℕ → ℕ → RoomState → RoomState
pushed_to b d state = record (with_changed_thing b (put_beside d) state) { robot_beside = Some b }

pub push-to-facts : (state : RoomState) (t r d : ℕ) (beside : Option ℕ) → slice_get state.things t ≡ Some (a_box r beside)
    → rendering (pushed_to (suc t) d state)
    ≡ changed (next_to robot WildCard ∷ next_to (Obj (suc t)) WildCard ∷ [])
    (next_to robot (Obj (suc t)) ∷ next_to (Obj (suc t)) (Obj d) ∷ []) (rendering state)
push-to-facts state t r d beside here =
    let schema =
    change_of_facts (next_to robot WildCard ∷ next_to (Obj (suc t)) WildCard ∷ [])
    (next_to robot (Obj (suc t)) ∷ next_to (Obj (suc t)) (Obj d) ∷ []) in
    thing-result schema no_objects state (pushed_to (suc t) d state) t (a_box r beside) (a_box r (Some d)) here
    (changed-here (put_beside d) state.things t (a_box r beside) here)
    (changed-there (put_beside d) state.things t)
    (λ k differ. ((0, (WildCard ∷ [], refl), robot_not_thing k), ((suc t, (WildCard ∷ [], refl), thing_not_thing k t differ), tt)))
    (record {
      comes = (inl ((0, omega arith, refl), refl), (inr (0, omega arith, refl), tt));
      goes = (inr (0, omega arith, refl), beside-all _ 0 state.robot_beside (λ y. inl refl));
    })
    (record {
      comes = (inl ((0, omega arith, refl), refl), (inl ((1, omega arith, refl), refl), (inr (1, omega arith, refl), tt)));
      goes = (
        inr (0, omega arith, refl),
        (
          inr (1, omega arith, refl),
          beside-all _ (suc t) beside (λ y. inl (rw (other-number 0 (suc t) (robot_not_thing t), same-number (suc t)) refl)),
        ),
      );
    })
    (inl (1, omega arith, refl), (inr (2, omega arith, refl), tt))

-- ---- a box is pushed through a door

abbrev pushed_into : ℕ → ℕ → RoomState → RoomState
pushed_into b s state = record (with_changed_thing b (put_into s) state) { robot_room = s; robot_beside = Some b }

abbrev through_schema : ℕ → ℕ → Schema
through_schema b s =
    change_of_facts (in_room robot WildCard ∷ in_room (Obj b) WildCard ∷ next_to robot WildCard ∷ next_to (Obj b) WildCard ∷ [])
    (in_room robot (Obj s) ∷ in_room (Obj b) (Obj s) ∷ next_to robot (Obj b) ∷ [])

pub push-through-facts : (state : RoomState) (t r s : ℕ) (beside : Option ℕ) → slice_get state.things t ≡ Some (a_box r beside)
    → rendering (pushed_into (suc t) s state)
    ≡ result_by (through_schema (suc t) s) (rendering state) no_objects
push-through-facts state t r s beside here =
    thing-result (through_schema (suc t) s) no_objects state (pushed_into (suc t) s state) t (a_box r beside) (a_box s None) here
    (changed-here (put_into s) state.things t (a_box r beside) here)
    (changed-there (put_into s) state.things t)
    (λ k differ. (
      (0, (WildCard ∷ [], refl), robot_not_thing k),
      (
        (suc t, (WildCard ∷ [], refl), thing_not_thing k t differ),
        ((0, (WildCard ∷ [], refl), robot_not_thing k), ((suc t, (WildCard ∷ [], refl), thing_not_thing k t differ), tt)),
      ),
    ))
    (record {
      comes = (inr (0, omega arith, refl), (inr (2, omega arith, refl), tt));
      goes = (inl refl, beside-all _ 0 state.robot_beside (λ y. inl refl));
    })
    (record {
      comes = (inl ((0, omega arith, refl), refl), (inr (1, omega arith, refl), tt));
      goes = (
        inr (0, omega arith, refl),
        (
          inl (rw (other-number 0 (suc t) (robot_not_thing t), same-number (suc t)) refl),
          beside-all _ (suc t) beside (λ y. inl (rw (other-number 0 (suc t) (robot_not_thing t), same-number (suc t)) refl)),
        ),
      );
    })
    (inl (0, omega arith, refl), (inr (1, omega arith, refl), (inl (1, omega arith, refl), tt)))

-- ---- a box is put into a room

module _ (t r : ℕ) where
  abbrev put : Schema
  put = edit_schema (edit.Box (suc t) r)

  robot-changes : (room : ℕ) (beside : Option ℕ)
      → Changes put no_objects (in_room robot (Obj room) ∷ beside_atoms 0 beside)
      (in_room robot (Obj room) ∷ beside_atoms 0 (parted_from (suc t) beside))
  robot-changes room None = record {
    comes = (inl ((0, omega arith, refl), rw (other-number (suc t) 0 (thing_not_robot t)) refl), tt);
    goes = (inr (0, omega arith, refl), tt);
  }
  robot-changes room (Some x) = by_number (x == suc t) refl where
    by_number : (b : Bool) → (x == suc t) ≡ b
        → Changes put no_objects (in_room robot (Obj room) ∷ next_to robot (Obj x) ∷ [])
        (in_room robot (Obj room) ∷ beside_atoms 0 (if x == suc t then None else Some x))
    by_number true is = rw is (record {
      comes = (inl ((0, omega arith, refl), rw (other-number (suc t) 0 (thing_not_robot t)) refl), tt);
      goes = (
        inr (0, omega arith, refl),
        (
          inl (subst (λ n. is_deleted put no_objects (next_to robot (Obj n)) ≡ true) (sym (eqb-true x (suc t) is))
              (rw (other-number (suc t) 0 (thing_not_robot t), same-number (suc t)) refl)),
          tt,
        ),
      );
    })
    by_number false is = rw is (record {
      comes = (
        inl ((0, omega arith, refl), rw (other-number (suc t) 0 (thing_not_robot t)) refl),
        (
          inl (
            (1, omega arith, refl),
            rw (other-number (suc t) 0 (thing_not_robot t), other-number (suc t) x (λ e. differing x (suc t) is (sym e))) refl,
          ),
          tt,
        ),
      );
      goes = (inr (0, omega arith, refl), (inr (1, omega arith, refl), tt));
    })

  pub box-facts : (state : RoomState) (old : ℕ) (beside : Option ℕ) → slice_get state.things t ≡ Some (a_box old beside)
      → rendering (state_edited (edit.Box (suc t) r) state) ≡ facts_edited (edit.Box (suc t) r) (rendering state)
  box-facts state old beside here =
      thing-result put no_objects state (state_edited (edit.Box (suc t) r) state) t (a_box old beside) (a_box r None) here
      (changed-here (put_into r) state.things t (a_box old beside) here)
      (changed-there (put_into r) state.things t)
      (λ k differ. (
        (suc t, (WildCard ∷ [], refl), thing_not_thing k t differ),
        ((suc t, (WildCard ∷ [], refl), thing_not_thing k t differ), ((0, (Obj (suc t) ∷ [], refl), robot_not_thing k), tt)),
      ))
      (robot-changes state.robot_room state.robot_beside)
      (record {
        comes = (inl ((0, omega arith, refl), refl), (inr (0, omega arith, refl), tt));
        goes = (
          inr (0, omega arith, refl),
          (inl (rw (same-number (suc t)) refl), beside-all _ (suc t) beside (λ y. inl (rw (same-number (suc t)) refl))),
        );
      })
      (inr (1, omega arith, refl), tt)
