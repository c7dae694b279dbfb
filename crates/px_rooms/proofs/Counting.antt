-- No fact of a state is listed twice.
use Rattle.std.specs.Prelude.{◌≡◌, ◌≢◌, ◌<◌, ◌≤◌, ◌+◌, ◌*◌, ℕ, Bool, true, false, Option, Some, None, List, [], ◌∷◌, ◌++◌, length, Contains}
use Rattle.std.proofs.Common.{suc, refl, sym, ap, ◌∙◌, subst, inl, inr, arith, length-append}
use Rattle.std.proofs.lemmas.List.Elements.{Contains-append_cases}
use Rattle.std.specs.List.{AllByRecursion}
use Rattle.std.specs.declared.cmp.Ordering.TheVariants.{Less, Equal, Greater}
use Rattle.px_base.specs.ListLaws.{AllByRecursion-at, Contains-cases, Contains-first, Contains-later, Contains-none, All-at}
use Rattle.px_base.specs.Sets.{place_item, set_of, with_item}
use Rattle.px_base.specs.SetLaws.{set_of-members}
use Rattle.px_terms.specs.declared.atom.Atom.{Atom}
use Rattle.px_terms.specs.declared.term.Term.TheVariants.{Obj}
use Rattle.px_terms.specs.AtomSets.{atom_set, with_atom}
use Rattle.px_terms.specs.Order.{atom_cmp}
use Rattle.px_terms.specs.OrderLaws.{atom_cmp-total, atom_cmp-same}
use Rattle.px_rooms.specs.declared.standing.Standing.{Standing}
use Rattle.px_rooms.specs.declared.standing.Standing.TheVariants.{Room as a_room, Door as a_door, Box as a_box}
use Rattle.px_rooms.specs.Domain.{connects, in_room, is_box, is_door, is_room, robot}
use Rattle.px_rooms.specs.States.{IsRoomState, RoomState, StandsRight, all_atoms, atoms_from, beside_atoms, door_atom, rendering, robot_atoms, thing_atoms}
use Rattle.px_rooms.proofs.About.{IsAbout, all-about, thing-about}
use Rattle.px_rooms.proofs.Effects.{all_of}
use Rattle.px_rooms.proofs.Telling.{about-same, second_number}

-- no atom stands in the list twice
abbrev pub AreOnce : List Atom → Type 0
AreOnce [] = Unit {0}
AreOnce (x ∷ xs) = (¬ Contains xs x) × AreOnce xs

with_atom-new : (atom : Atom) (atoms : List Atom) → ¬ Contains atoms atom → length (with_atom atom atoms) ≡ suc (length atoms)
unfolding with_item
with_atom-new atom [] new = refl
with_atom-new atom (x ∷ xs) new =
    elim (atom_cmp atom x) as (λ r. atom_cmp atom x ≡ r
    → length (place_item r atom x xs (with_item atom_cmp atom xs)) ≡ suc (length (x ∷ xs))) [
      | Less ↦ λ _. refl
      | Equal ↦ λ equal. absurd (new (subst (Contains (x ∷ xs)) (sym (atom_cmp-same atom x equal)) (Contains-first x xs)))
      | Greater ↦ λ _. ap suc (with_atom-new atom xs (λ has. new (Contains-later x xs atom has)))
    ] refl

set-of-once : (atoms : List Atom) → AreOnce atoms → length (atom_set atoms) ≡ length atoms
unfolding set_of
set-of-once [] once = refl
set-of-once (x ∷ xs) (new, once) =
    with_atom-new x (atom_set xs) (λ has. new ((set_of-members atom_cmp atom_cmp-total atom_cmp-same xs x).0 has))
    ∙ ap suc (set-of-once xs once)

append-once : (xs ys : List Atom) → AreOnce xs → AreOnce ys → ((a : Atom) → Contains xs a → ¬ Contains ys a) → AreOnce (xs ++ ys)
append-once [] ys once others apart = others
append-once (x ∷ xs) ys (new, once) others apart = (
  λ has. elim (Contains-append_cases xs ys x has) [ inl here ↦ new here | inr there ↦ apart x (Contains-first x xs) there ],
  append-once xs ys once others (λ a has. apart a (Contains-later x xs a has)),
)

beside-once : (k : ℕ) (beside : Option ℕ) → AreOnce (beside_atoms k beside)
beside-once k None = tt
beside-once k (Some x) = (λ has. Contains-none _ has, tt)

-- an atom isn't among those of other predicates
other-kind : (atom : Atom) (atoms : List Atom) → AllByRecursion (λ a. a.pred ≢ atom.pred) atoms → ¬ Contains atoms atom
other-kind atom atoms other has = (AllByRecursion-at (λ a. a.pred ≢ atom.pred) atoms atom other has) refl

beside-kind : (k : ℕ) (beside : Option ℕ) (pred : ℕ) → 1 ≢ pred → AllByRecursion (λ a. a.pred ≢ pred) (beside_atoms k beside)
beside-kind k None pred other = tt
beside-kind k (Some x) pred other = (other, tt)

door-kind : (k : ℕ) (is_open : Bool) (pred : ℕ) → 3 ≢ pred → 4 ≢ pred → (door_atom k is_open).pred ≢ pred
door-kind k true pred three four = three
door-kind k false pred three four = four

door-once : (k x y : ℕ) (is_open : Bool) → x ≢ y → AreOnce (thing_atoms k (a_door x y is_open))
door-once k x y is_open differ =
    let way = connects (Obj k) (Obj x) (Obj y) in
    let back = connects (Obj k) (Obj y) (Obj x) in
    let last = door_atom k is_open in
    let not_last : last.pred ≢ 2 = door-kind k is_open 2 (λ e. omega (arith, e)) (λ e. omega (arith, e)) in
    let no_kind : last.pred ≢ 6 = door-kind k is_open 6 (λ e. omega (arith, e)) (λ e. omega (arith, e)) in (
      other-kind (is_door (Obj k)) (way ∷ back ∷ last ∷ []) ((λ e. omega (arith, e)), ((λ e. omega (arith, e)), (no_kind, tt))),
      (
        (λ has. elim (Contains-cases back (last ∷ []) way has) [
          | inl is ↦ differ (sym (ap (λ (a : Atom). second_number a.args) is))
          | inr later ↦ other-kind way (last ∷ []) (not_last, tt) later
        ]),
        (other-kind back (last ∷ []) (not_last, tt), (Contains-none last, tt)),
      ),
    )

thing-once : (things : List Standing) (k : ℕ) (one : Standing) → StandsRight things one → AreOnce (thing_atoms k one)
thing-once things k a_room right = (Contains-none (is_room (Obj k)), tt)
thing-once things k (a_door x y is_open) right = door-once k x y is_open right.2
thing-once things k (a_box r beside) right = (
  other-kind (is_box (Obj k)) (in_room (Obj k) (Obj r) ∷ beside_atoms k beside)
      ((λ e. omega (arith, e)), beside-kind k beside 7 (λ e. omega (arith, e))),
  (other-kind (in_room (Obj k) (Obj r)) (beside_atoms k beside) (beside-kind k beside 0 (λ e. omega (arith, e))), beside-once k beside),
)

-- the facts of later things are about them
from-later : (n : ℕ) (things : List Standing) (atom : Atom) → Contains (atoms_from n things) atom → (k : ℕ) × (n ≤ k) × IsAbout k atom
from-later n [] atom has = absurd (Contains-none atom has)
from-later n (one ∷ things) atom has = elim (Contains-append_cases (thing_atoms n one) (atoms_from (n + 1) things) atom has) [
  | inl here ↦ (n, omega arith, AllByRecursion-at (IsAbout n) (thing_atoms n one) atom (thing-about n one) here)
  | inr later ↦ let found = from-later (n + 1) things atom later in (found.0, omega (arith, found.1), found.2)
]

apart : (n k : ℕ) (atom : Atom) → n < k → IsAbout n atom → ¬ IsAbout k atom
apart n k atom less (terms, is) at = let same = about-same k n atom terms at is in omega (arith, less, same)

from-once : (all : List Standing) (n : ℕ) (things : List Standing) → AllByRecursion (StandsRight all) things → AreOnce (atoms_from n things)
from-once all n [] right = tt
from-once all n (one ∷ things) (here, right) =
    append-once (thing_atoms n one) (atoms_from (n + 1) things) (thing-once all n one here) (from-once all (n + 1) things right)
    (λ a has later. let found = from-later (n + 1) things a later in
    apart n found.0 a (omega (arith, found.1)) (AllByRecursion-at (IsAbout n) (thing_atoms n one) a (thing-about n one) has) found.2)

pub rendering-length : (state : RoomState) → IsRoomState state → length (rendering state) ≡ length (all_atoms state)
rendering-length state is = set-of-once (all_atoms state)
    (append-once (robot_atoms state) (atoms_from 1 state.things) (
      other-kind (in_room robot (Obj state.robot_room)) (beside_atoms 0 state.robot_beside)
          (beside-kind 0 state.robot_beside 0 (λ e. omega (arith, e))),
      beside-once 0 state.robot_beside,
    )
    (from-once state.things 1 state.things (all_of (StandsRight state.things) state.things
    (λ q has. All-at (StandsRight state.things) state.things q is.things has)))
    (λ a has later. let found = from-later 1 state.things a later in
    apart 0 found.0 a (omega (arith, found.1)) (AllByRecursion-at (IsAbout 0) (robot_atoms state) a (all-about state 0) has) found.2))

-- the facts about the robot and those about the things, counted
pub counted-all : (inside state : RoomState) (robot things : ℕ) → inside ≡ state → IsRoomState state → robot ≡ length (robot_atoms inside)
    → things ≡ length (atoms_from 1 inside.things) → robot + things ≡ length (rendering state)
counted-all inside state robot things same is of_robot of_things =
    let all = ap (λ (s : RoomState). length (all_atoms s)) same in
    let parts = length-append (robot_atoms inside) (atoms_from 1 inside.things) in
    omega (arith, of_robot, of_things, parts, all, rendering-length state is)

-- ---- and there are at most four a thing, and two

few-beside : (k : ℕ) (beside : Option ℕ) → length (beside_atoms k beside) ≤ 1
few-beside k None = omega arith
few-beside k (Some x) = omega arith

few-atoms : (k : ℕ) (one : Standing) → length (thing_atoms k one) ≤ 4
few-atoms k a_room = omega arith
few-atoms k (a_door x y is_open) = omega arith
few-atoms k (a_box r beside) = let few = few-beside k beside in omega (arith, few)

few-from : (n : ℕ) (things : List Standing) → length (atoms_from n things) ≤ 4 * length things
few-from n [] = omega arith
few-from n (one ∷ things) =
    let here =
    few-atoms n one in let rest =
    few-from (n + 1) things in omega (arith, here, rest, length-append (thing_atoms n one) (atoms_from (n + 1) things))

pub rendering-few : (state : RoomState) → IsRoomState state → length (rendering state) ≤ 4 * length state.things + 2
rendering-few state is =
    let robot = few-beside 0 state.robot_beside in
    let things = few-from 1 state.things in
    omega (arith, robot, things, rendering-length state is, length-append (robot_atoms state) (atoms_from 1 state.things))
