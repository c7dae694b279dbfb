-- What the worked run in a building says is so.
use Rattle.std.specs.Prelude.{◌≡◌, ◌&&◌, ◌||◌, Bool, true, false, Some, None, List, [], ◌∷◌, All, Contains}
use Rattle.std.specs.List.{list_all, list_any}
use Rattle.std.proofs.Common.{refl, sym, ap, ◌∙◌, subst, inl, inr, arith}
use Rattle.std.proofs.lemmas.List.Elements.{All-cons, All-nil}
use Rattle.px_base.specs.ListLaws.{Contains-cases, Contains-first, Contains-later, Contains-none}
use Rattle.px_base.specs.Sets.{set_of, with_item}
use Rattle.px_terms.specs.declared.atom.Atom.{Atom}
use Rattle.px_terms.specs.declared.term.Term.TheVariants.{Obj}
use Rattle.px_terms.specs.Operators.{precondition}
use Rattle.px_terms.specs.Order.{atom_eq}
use Rattle.px_terms.specs.OrderLaws.{atom_eq-decides}
use Rattle.px_rooms.specs.declared.action.RoomAction.{RoomAction}
use Rattle.px_rooms.specs.declared.action.RoomAction.TheVariants as act
use Rattle.px_rooms.specs.Changes.{acted, instance_of_action}
use Rattle.px_rooms.specs.Domain.{closed}
use Rattle.px_rooms.specs.States.{RoomState, building_rules, rendering}
use Rattle.px_rooms.specs.WorkedBuilding.{is_met}
use Rattle.px_session.specs.RoomRuns.{IsDone}
use Rattle.px_session.specs.WorkedRooms.{WorkedRooms, with_robot}

-- ---- atoms that are looked up

clash : ¬ (false ≡ true)
clash e = cc

or-true : (b : Bool) → (b || true) ≡ true
or-true true = refl
or-true false = refl

any-tested : (atoms : List Atom) (a : Atom) → list_any (atom_eq a) atoms ≡ true → Contains atoms a
any-tested [] a is = absurd (cc)
any-tested (x ∷ xs) a is = by (any-tested xs a) (atom_eq a x) refl is where
  by : (list_any (atom_eq a) xs ≡ true → Contains xs a) → (b : Bool) → atom_eq a x ≡ b → (b || list_any (atom_eq a) xs) ≡ true
      → Contains (x ∷ xs) a
  by later true same is = subst (Contains (x ∷ xs)) (sym ((atom_eq-decides a x).0 same)) (Contains-first x xs)
  by later false same is = Contains-later x xs a (later is)

any-of : (atoms : List Atom) (a : Atom) → Contains atoms a → list_any (atom_eq a) atoms ≡ true
any-of [] a has = absurd (Contains-none a has)
any-of (x ∷ xs) a has = elim (Contains-cases x xs a has) [
  | inl same ↦ ap (λ (b : Bool). b || list_any (atom_eq a) xs) ((atom_eq-decides a x).1 (sym same))
  | inr later ↦ ap (λ (b : Bool). atom_eq a x || b) (any-of xs a later) ∙ or-true (atom_eq a x)
]

all-tested : (atoms needed : List Atom) → list_all (λ a. list_any (atom_eq a) atoms) needed ≡ true → All (Contains atoms) needed
all-tested atoms [] is = All-nil (Contains atoms)
all-tested atoms (a ∷ needed) is = by (all-tested atoms needed) (list_any (atom_eq a) atoms) refl is where
  by : (list_all (λ x. list_any (atom_eq x) atoms) needed ≡ true → All (Contains atoms) needed) → (b : Bool)
      → list_any (atom_eq a) atoms ≡ b
      → (b && list_all (λ x. list_any (atom_eq x) atoms) needed) ≡ true → All (Contains atoms) (a ∷ needed)
  by rest true found is = All-cons (Contains atoms) a needed (any-tested atoms a found) (rest is)
  by rest false found is = absurd (clash is)

done : (state : RoomState) (action : RoomAction) → is_met state action ≡ true
    → IsDone (instance_of_action action) state (acted action state)
done state action met = record {
  met = all-tested (rendering state) (precondition (building_rules state) (instance_of_action action)) met;
  moved = record { action = action; by_action = refl; left = refl };
}

-- ---- the run

-- the states in the first room, by what the robot is beside and whether the door is open
abbrev at_first : RoomState
at_first = with_robot 1 None false

abbrev at_closed : RoomState
at_closed = with_robot 1 (Some 3) false

abbrev at_open : RoomState
at_open = with_robot 1 (Some 3) true

abbrev through : RoomState
through = with_robot 2 None true

not-twice : (next : RoomState) → ¬ IsDone (instance_of_action (act.Open 3)) at_open next
unfolding set_of with_item
not-twice next is = clash (any-of (rendering at_open) (closed (Obj 3)) (is.met 2 (closed (Obj 3)) (omega arith)))

pub worked_rooms : WorkedRooms
unfolding set_of with_item
worked_rooms = record {
  first = refl;
  turned = (
    at_first,
    refl,
    (
      at_closed,
      (instance_of_action (act.GoToDoor 3 1 2), refl, (at_first, refl, done at_first (act.GoToDoor 3 1 2) refl)),
      (
        at_closed,
        refl,
        (
          at_open,
          (instance_of_action (act.Open 3), refl, (at_closed, refl, done at_closed (act.Open 3) refl)),
          (
            at_closed,
            ((1, 2, true, refl), refl),
            (
              at_open,
              (instance_of_action (act.Open 3), refl, (at_closed, refl, done at_closed (act.Open 3) refl)),
              (
                at_open,
                refl,
                (
                  through,
                  (instance_of_action (act.GoThrough 3 1 2), refl, (at_open, refl, done at_open (act.GoThrough 3 1 2) refl)),
                  (through, refl, (through, refl, refl)),
                ),
              ),
            ),
          ),
        ),
      ),
    ),
  );
  not_twice = not-twice;
}
