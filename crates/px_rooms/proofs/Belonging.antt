-- The facts of a state are atoms over its building's objects and predicates.
use Rattle.std.specs.Prelude.{◌≡◌, ◌⊎◌, ◌<◌, ◌+◌, ℕ, Bool, true, false, Option, Some, None, List, [], ◌∷◌, length, All, slice_get}
use Rattle.std.proofs.Common.{zero, suc, refl, subst, inl, inr, arith}
use Rattle.std.proofs.lemmas.List.Elements.{All-cons, All-nil}
use Rattle.std.proofs.lemmas.Option.{get_or_from_slice_get, slice_get_within}
use Rattle.std.specs.List.{AllByRecursion}
use Rattle.px_base.specs.Answers.{some_same}
use Rattle.px_base.specs.ListLaws.{All-each, AllByRecursion-at}
use Rattle.px_terms.specs.declared.atom.Atom.{Atom}
use Rattle.px_terms.specs.declared.term.Term.TheVariants.{Obj}
use Rattle.px_terms.specs.Validity.{HasArity, IsAtomOf, IsTermOf}
use Rattle.px_rooms.specs.declared.standing.Standing.{Standing}
use Rattle.px_rooms.specs.declared.standing.Standing.TheVariants.{Room as a_room, Door as a_door, Box as a_box}
use Rattle.px_rooms.specs.FactSets.{FactsAreAtoms}
use Rattle.px_rooms.specs.Looking.{atoms_about, atoms_of_thing}
use Rattle.px_rooms.specs.States.{IsBoxAt, IsBoxOrDoorOrNone, IsDoorAt, IsDoorOrNone, IsRoomState, RoomState, StandsRight, beside_atoms, building_rules, door_atom, rendering, thing_at, thing_atoms}
use Rattle.px_rooms.proofs.About.{rendering-about}
use Rattle.px_rooms.proofs.Worlds.{rendering-ascending}

-- ---- the numbers of things are those of objects

inside : (things : List Standing) (n : ℕ) (one : Standing) → thing_at things n ≡ Some one → n < length things + 1
inside things zero one at = absurd (cc)
inside things (suc k) one at = let below = slice_get_within things k one at in omega (arith, below)

-- each number of the list is that of an object
abbrev AreInside : List Standing → Option ℕ → Type 0
AreInside things beside = (x : ℕ) → beside ≡ Some x → x < length things + 1

door-inside : (things : List Standing) (beside : Option ℕ) → IsDoorOrNone things beside → AreInside things beside
door-inside things None is x e = absurd (cc)
door-inside things (Some y) is x e = subst (λ n. n < length things + 1) (some_same e) (inside things y (a_door is.0 is.1 is.2) is.3)

one-inside : (things : List Standing) (y : ℕ) → IsBoxAt things y ⊎ IsDoorAt things y → y < length things + 1
one-inside things y (inl is) = inside things y (a_box is.0 is.1) is.2
one-inside things y (inr is) = inside things y (a_door is.0 is.1 is.2) is.3

any-inside : (things : List Standing) (beside : Option ℕ) → IsBoxOrDoorOrNone things beside → AreInside things beside
any-inside things None is x e = absurd (cc)
any-inside things (Some y) is x e = subst (λ n. n < length things + 1) (some_same e) (one-inside things y is)

-- ---- atoms of the building

module _ (state : RoomState) where
  abbrev Belongs : Atom → Type 0
  Belongs = IsAtomOf (building_rules state) 0

  of-one : (pred k : ℕ) → HasArity (building_rules state) (record { pred = pred; args = Obj k ∷ [] }) → k < length state.things + 1
      → Belongs (record { pred = pred; args = Obj k ∷ [] })
  of-one pred k arity at = (arity, All-cons (IsTermOf (building_rules state) 0) (Obj k) [] at (All-nil (IsTermOf (building_rules state) 0)))

  of-two : (pred k x : ℕ) → HasArity (building_rules state) (record { pred = pred; args = Obj k ∷ Obj x ∷ [] })
      → k < length state.things + 1 → x < length state.things + 1
      → Belongs (record { pred = pred; args = Obj k ∷ Obj x ∷ [] })
  of-two pred k x arity at other = (
    arity,
    All-cons (IsTermOf (building_rules state) 0) (Obj k) (Obj x ∷ []) at
        (All-cons (IsTermOf (building_rules state) 0) (Obj x) [] other (All-nil (IsTermOf (building_rules state) 0))),
  )

  connecting : (k x y : ℕ) → k < length state.things + 1 → x < length state.things + 1 → y < length state.things + 1
      → Belongs (record { pred = 2; args = Obj k ∷ Obj x ∷ Obj y ∷ [] })
  connecting k x y at one other = (
    (omega arith, refl),
    All-cons (IsTermOf (building_rules state) 0) (Obj k) (Obj x ∷ Obj y ∷ []) at
        (All-cons (IsTermOf (building_rules state) 0) (Obj x) (Obj y ∷ []) one
        (All-cons (IsTermOf (building_rules state) 0) (Obj y) [] other (All-nil (IsTermOf (building_rules state) 0)))),
  )

  beside-belongs : (k : ℕ) (beside : Option ℕ) → k < length state.things + 1 → AreInside state.things beside
      → AllByRecursion Belongs (beside_atoms k beside)
  beside-belongs k None at are = tt
  beside-belongs k (Some x) at are = (of-two 1 k x (omega arith, refl) at (are x refl), tt)

  door-belongs : (k : ℕ) (is_open : Bool) → k < length state.things + 1 → Belongs (door_atom k is_open)
  door-belongs k true at = of-one 3 k (omega arith, refl) at
  door-belongs k false at = of-one 4 k (omega arith, refl) at

  thing-belongs : (k : ℕ) (one : Standing) → k < length state.things + 1 → StandsRight state.things one
      → AllByRecursion Belongs (thing_atoms k one)
  thing-belongs k a_room at right = (of-one 5 k (omega arith, refl) at, tt)
  thing-belongs k (a_door x y is_open) at right =
      let one = inside state.things x a_room right.0 in
      let other = inside state.things y a_room right.1 in
      (of-one 6 k (omega arith, refl) at, (connecting k x y at one other, (connecting k y x at other one, (door-belongs k is_open at, tt))))
  thing-belongs k (a_box r beside) at right = (
    of-one 7 k (omega arith, refl) at,
    (
      of-two 0 k r (omega arith, refl) at (inside state.things r a_room right.0),
      beside-belongs k beside at (door-inside state.things beside right.1),
    ),
  )

  found-belongs : (k : ℕ) (found : Option Standing) → slice_get state.things k ≡ found → IsRoomState state
      → AllByRecursion Belongs (atoms_of_thing (suc k) found)
  found-belongs k None at is = tt
  found-belongs k (Some one) at is =
      let below = slice_get_within state.things k one at in
      thing-belongs (suc k) one (omega (arith, below))
      (subst (StandsRight state.things) (get_or_from_slice_get state.things k one one at) (is.things k one below))

  about-belongs : (k : ℕ) → IsRoomState state → AllByRecursion Belongs (atoms_about state k)
  about-belongs zero is = (
    of-two 0 0 state.robot_room (omega arith, refl) (omega arith) (inside state.things state.robot_room a_room is.robot_room),
    beside-belongs 0 state.robot_beside (omega arith) (any-inside state.things state.robot_beside is.robot_beside),
  )
  about-belongs (suc k) is = found-belongs k (slice_get state.things k) refl is

  rendering-belongs : IsRoomState state → All Belongs (rendering state)
  rendering-belongs is = All-each Belongs (rendering state)
      (λ atom has. let found = rendering-about state atom has in
      AllByRecursion-at Belongs (atoms_about state found.0) atom (about-belongs found.0 is) found.1)

pub facts-are-atoms : FactsAreAtoms
facts-are-atoms state is = (rendering-ascending state, rendering-belongs state is)
