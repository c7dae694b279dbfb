-- The facts of a state by the object that each is about, its first argument.
use Rattle.std.specs.Prelude.{◌≡◌, ◌+◌, ℕ, Bool, true, false, Option, Some, None, List, [], ◌∷◌, ◌++◌, slice_get, Contains}
use Rattle.std.proofs.Common.{zero, suc, refl, subst, inl, inr, arith}
use Rattle.std.proofs.lemmas.List.Elements.{Contains-append_left, Contains-append_right, Contains-append_cases}
use Rattle.std.specs.List.{AllByRecursion}
use Rattle.px_base.specs.ListLaws.{Contains-none, AllByRecursion-at}
use Rattle.px_base.specs.SetLaws.{set_of-members}
use Rattle.px_terms.specs.declared.atom.Atom.{Atom}
use Rattle.px_terms.specs.declared.term.Term.{Term}
use Rattle.px_terms.specs.declared.term.Term.TheVariants.{Obj}
use Rattle.px_terms.specs.Order.{atom_cmp}
use Rattle.px_terms.specs.OrderLaws.{atom_cmp-total, atom_cmp-same}
use Rattle.px_rooms.specs.declared.standing.Standing.{Standing}
use Rattle.px_rooms.specs.declared.standing.Standing.TheVariants.{Room as a_room, Door as a_door, Box as a_box}
use Rattle.px_rooms.specs.Looking.{atoms_about, atoms_of_thing}
use Rattle.px_rooms.specs.States.{RoomState, atoms_from, beside_atoms, door_atom, rendering, robot_atoms, thing_atoms}

-- ---- the facts about an object

-- the object is the atom's first argument
abbrev pub IsAbout : ℕ → Atom → Type 0
IsAbout k atom = (terms : List Term) × (atom.args ≡ Obj k ∷ terms)

beside-about : (k : ℕ) (beside : Option ℕ) → AllByRecursion (IsAbout k) (beside_atoms k beside)
beside-about k None = tt
beside-about k (Some x) = ((Obj x ∷ [], refl), tt)

door-about : (k : ℕ) (is_open : Bool) → IsAbout k (door_atom k is_open)
door-about k true = ([], refl)
door-about k false = ([], refl)

pub thing-about : (k : ℕ) (one : Standing) → AllByRecursion (IsAbout k) (thing_atoms k one)
thing-about k a_room = (([], refl), tt)
thing-about k (a_door x y is_open) = (([], refl), ((Obj x ∷ Obj y ∷ [], refl), ((Obj y ∷ Obj x ∷ [], refl), (door-about k is_open, tt))))
thing-about k (a_box r beside) = (([], refl), ((Obj r ∷ [], refl), beside-about k beside))

of_thing-about : (k : ℕ) (one : Option Standing) → AllByRecursion (IsAbout k) (atoms_of_thing k one)
of_thing-about k None = tt
of_thing-about k (Some one) = thing-about k one

pub all-about : (state : RoomState) (k : ℕ) → AllByRecursion (IsAbout k) (atoms_about state k)
all-about state zero = ((Obj state.robot_room ∷ [], refl), beside-about 0 state.robot_beside)
all-about state (suc k) = of_thing-about (suc k) (slice_get state.things k)

pub about : (state : RoomState) (k : ℕ) (atom : Atom) → Contains (atoms_about state k) atom → IsAbout k atom
about state k atom has = AllByRecursion-at (IsAbout k) (atoms_about state k) atom (all-about state k) has

-- ---- the facts of a state are those about the robot and about each thing

from-place : (n : ℕ) (things : List Standing) (atom : Atom) → Contains (atoms_from n things) atom
    → (j : ℕ) × Contains (atoms_of_thing (n + j) (slice_get things j)) atom
from-place n [] atom has = absurd (Contains-none atom has)
from-place n (one ∷ things) atom has = elim (Contains-append_cases (thing_atoms n one) (atoms_from (n + 1) things) atom has) [
  | inl here ↦ (0, subst (λ k. Contains (thing_atoms k one) atom) (omega arith) here)
  | inr later ↦ let found = from-place (n + 1) things atom later in
      (suc found.0, subst (λ k. Contains (atoms_of_thing k (slice_get things found.0)) atom) (omega arith) found.1)
]

place-from : (n : ℕ) (things : List Standing) (j : ℕ) (atom : Atom) → Contains (atoms_of_thing (n + j) (slice_get things j)) atom
    → Contains (atoms_from n things) atom
place-from n [] j atom has = absurd (Contains-none atom has)
place-from n (one ∷ things) zero atom has =
    Contains-append_left (thing_atoms n one) (atoms_from (n + 1) things) atom
    (subst (λ k. Contains (thing_atoms k one) atom) (omega arith) has)
place-from n (one ∷ things) (suc j) atom has = Contains-append_right (thing_atoms n one) (atoms_from (n + 1) things) atom
    (place-from (n + 1) things j atom (subst (λ k. Contains (atoms_of_thing k (slice_get things j)) atom) (omega arith) has))

pub rendering-about : (state : RoomState) (atom : Atom) → Contains (rendering state) atom → (k : ℕ) × Contains (atoms_about state k) atom
rendering-about state atom has =
    elim (Contains-append_cases (robot_atoms state) (atoms_from 1 state.things) atom
    ((set_of-members atom_cmp atom_cmp-total atom_cmp-same (robot_atoms state ++ atoms_from 1 state.things) atom).0 has)) [
      | inl here ↦ (0, here)
      | inr later ↦ let found =
          from-place 1 state.things atom later in
          (suc found.0, subst (λ k. Contains (atoms_of_thing k (slice_get state.things found.0)) atom) (omega arith) found.1)
    ]

pub about-rendering : (state : RoomState) (k : ℕ) (atom : Atom) → Contains (atoms_about state k) atom → Contains (rendering state) atom
about-rendering state k atom has =
    (set_of-members atom_cmp atom_cmp-total atom_cmp-same (robot_atoms state ++ atoms_from 1 state.things) atom).1 (either k has) where
      either : (k : ℕ) → Contains (atoms_about state k) atom → Contains (robot_atoms state ++ atoms_from 1 state.things) atom
      either zero here = Contains-append_left (robot_atoms state) (atoms_from 1 state.things) atom here
      either (suc j) there =
          Contains-append_right (robot_atoms state) (atoms_from 1 state.things) atom
          (place-from 1 state.things j atom (subst (λ k. Contains (atoms_of_thing k (slice_get state.things j)) atom) (omega arith) there))
