-- What a fact says of the state.
use Rattle.std.specs.Prelude.{◌≡◌, ◌≢◌, ◌≤◌, ◌⊎◌, ℕ, Bool, true, false, Option, Some, None, List, [], ◌∷◌, slice_get, Contains}
use Rattle.std.proofs.Common.{zero, suc, refl, sym, ap, ◌∙◌, subst, inl, inr, arith}
use Rattle.std.specs.List.{AllByRecursion}
use Rattle.px_base.specs.ListLaws.{AllByRecursion-at}
use Rattle.px_terms.specs.declared.atom.Atom.{Atom}
use Rattle.px_terms.specs.declared.term.Term.{Term}
use Rattle.px_terms.specs.declared.term.Term.TheVariants.{Obj}
use Rattle.px_rooms.specs.declared.standing.Standing.{Standing}
use Rattle.px_rooms.specs.declared.standing.Standing.TheVariants.{Room as a_room, Door as a_door, Box as a_box}
use Rattle.px_rooms.specs.Domain.{connects, is_box, is_door}
use Rattle.px_rooms.specs.Looking.{atoms_about, atoms_of_thing}
use Rattle.px_rooms.specs.States.{IsBoxAt, IsDoorAt, RoomState, beside_atoms, rendering, thing_at, thing_atoms}
use Rattle.px_rooms.proofs.About.{IsAbout, about, about-rendering, rendering-about}
use Rattle.px_rooms.proofs.Numbers.{number_of}

-- ---- which object a fact is about

abbrev pub first_number : List Term → ℕ
first_number [] = 0
first_number (term ∷ terms) = number_of term

pub about-same : (k d : ℕ) (atom : Atom) (terms : List Term) → IsAbout k atom → atom.args ≡ Obj d ∷ terms → k ≡ d
about-same k d atom terms (others, is) told = ap first_number (sym is ∙ told)

pub found-about : (state : RoomState) (atom : Atom) (d : ℕ) (terms : List Term) → atom.args ≡ Obj d ∷ terms
    → Contains (rendering state) atom → Contains (atoms_about state d) atom
found-about state atom d terms told has =
    let found = rendering-about state atom has in
    subst (λ k. Contains (atoms_about state k) atom) (about-same found.0 d atom terms (about state found.0 atom found.1) told) found.1

-- ---- what is so of each fact of a kind

-- of a fact about a number: what it says by its predicate
abbrev Tells : ℕ → (Atom → Type 0) → Atom → Type 0
Tells pred P atom = atom.pred ≡ pred → P atom

beside-tells : (P : Atom → Type 0) (k : ℕ) (beside : Option ℕ) (pred : ℕ) → pred ≢ 1 → AllByRecursion (Tells pred P) (beside_atoms k beside)
beside-tells P k None pred other = tt
beside-tells P k (Some x) pred other = ((λ e. absurd (other (sym e))), tt)

-- what each thing's facts of a kind say of it, a fact says of the thing that it is about, unless it says where something is
told : (P : Option Standing → Atom → Type 0) (pred : ℕ) → 2 ≤ pred
    → ((k : ℕ) (one : Standing) → AllByRecursion (Tells pred (P (Some one))) (thing_atoms k one))
    → (state : RoomState) (atom : Atom) (d : ℕ) (terms : List Term) → atom.args ≡ Obj d ∷ terms → atom.pred ≡ pred
    → Contains (rendering state) atom
    → P (thing_at state.things d) atom
told P pred kind of_thing state atom d terms args is has = at d (found-about state atom d terms args has) where
  of_option : (k : ℕ) (one : Option Standing) → Contains (atoms_of_thing k one) atom → P one atom
  of_option k None (place, below, here) = absurd (omega (arith, below))
  of_option k (Some one) here = AllByRecursion-at (Tells pred (P (Some one))) (thing_atoms k one) atom (of_thing k one) here is

  of_robot : AllByRecursion (Tells pred (P (thing_at state.things 0))) (atoms_about state 0)
  of_robot = (
    (λ e. absurd (omega (arith, e, kind))),
    beside-tells (P (thing_at state.things 0)) 0 state.robot_beside pred (λ e. omega (arith, e, kind)),
  )

  at : (k : ℕ) → Contains (atoms_about state k) atom → P (thing_at state.things k) atom
  at zero here = AllByRecursion-at (Tells pred (P (thing_at state.things 0))) (atoms_about state 0) atom of_robot here is
  at (suc k) here = of_option (suc k) (slice_get state.things k) here

-- a box, or a door, is there, whatever the atom
abbrev BoxThere : Option Standing → Atom → Type 0
BoxThere one atom = (r : ℕ) × (beside : Option ℕ) × (one ≡ Some (a_box r beside))

abbrev DoorThere : Option Standing → Atom → Type 0
DoorThere one atom = (x : ℕ) × (y : ℕ) × (is_open : Bool) × (one ≡ Some (a_door x y is_open))

pub box-fact : (state : RoomState) (b : ℕ) → Contains (rendering state) (is_box (Obj b)) → IsBoxAt state.things b
box-fact state b has = told BoxThere 7 (omega arith) of_thing state (is_box (Obj b)) b [] refl refl has where
  of_thing : (k : ℕ) (one : Standing) → AllByRecursion (Tells 7 (BoxThere (Some one))) (thing_atoms k one)
  of_thing k a_room = ((λ e. absurd (omega (arith, e))), tt)
  of_thing k (a_door x y true) = (
    (λ e. absurd (omega (arith, e))),
    ((λ e. absurd (omega (arith, e))), ((λ e. absurd (omega (arith, e))), ((λ e. absurd (omega (arith, e))), tt))),
  )
  of_thing k (a_door x y false) = (
    (λ e. absurd (omega (arith, e))),
    ((λ e. absurd (omega (arith, e))), ((λ e. absurd (omega (arith, e))), ((λ e. absurd (omega (arith, e))), tt))),
  )
  of_thing k (a_box r beside) =
      ((λ e. (r, beside, refl)), ((λ e. absurd (omega (arith, e))), beside-tells _ k beside 7 (λ e. omega (arith, e))))

pub door-fact : (state : RoomState) (d : ℕ) → Contains (rendering state) (is_door (Obj d)) → IsDoorAt state.things d
door-fact state d has = told DoorThere 6 (omega arith) of_thing state (is_door (Obj d)) d [] refl refl has where
  of_thing : (k : ℕ) (one : Standing) → AllByRecursion (Tells 6 (DoorThere (Some one))) (thing_atoms k one)
  of_thing k a_room = ((λ e. absurd (omega (arith, e))), tt)
  of_thing k (a_door x y true) = (
    (λ e. (x, y, true, refl)),
    (
      (λ e. absurd (omega (arith, e))),
      ((λ e. absurd (omega (arith, e))), ((λ e. absurd (omega (arith, e))), tt)),
    ),
  )
  of_thing k (a_door x y false) = (
    (λ e. (x, y, false, refl)),
    (
      (λ e. absurd (omega (arith, e))),
      ((λ e. absurd (omega (arith, e))), ((λ e. absurd (omega (arith, e))), tt)),
    ),
  )
  of_thing k (a_box r beside) =
      ((λ e. absurd (omega (arith, e))), ((λ e. absurd (omega (arith, e))), beside-tells _ k beside 6 (λ e. omega (arith, e))))

-- ---- a door and its two rooms

abbrev pub second_number : List Term → ℕ
second_number [] = 0
second_number (term ∷ terms) = first_number terms

abbrev pub third_number : List Term → ℕ
third_number [] = 0
third_number (term ∷ terms) = second_number terms

-- the door is between the two rooms, in the one order or the other
abbrev pub IsBetween : RoomState → ℕ → ℕ → ℕ → Type 0
IsBetween state d x y =
    (is_open : Bool) × ((thing_at state.things d ≡ Some (a_door x y is_open)) ⊎ (thing_at state.things d ≡ Some (a_door y x is_open)))

-- the same of a thing and the rooms that an atom names
abbrev Between : Option Standing → Atom → Type 0
Between one atom =
    (is_open : Bool) × ((one ≡ Some (a_door (second_number atom.args) (third_number atom.args) is_open))
    ⊎ (one ≡ Some (a_door (third_number atom.args) (second_number atom.args) is_open)))

pub connects-fact : (state : RoomState) (d x y : ℕ) → Contains (rendering state) (connects (Obj d) (Obj x) (Obj y)) → IsBetween state d x y
connects-fact state d x y has =
    told Between 2 (omega arith) of_thing state (connects (Obj d) (Obj x) (Obj y)) d (Obj x ∷ Obj y ∷ []) refl refl has
  where
    of_thing : (k : ℕ) (one : Standing) → AllByRecursion (Tells 2 (Between (Some one))) (thing_atoms k one)
    of_thing k a_room = ((λ e. absurd (omega (arith, e))), tt)
    of_thing k (a_door x y true) =
        ((λ e. absurd (omega (arith, e))), ((λ e. (true, inl refl)), ((λ e. (true, inr refl)), ((λ e. absurd (omega (arith, e))), tt))))
    of_thing k (a_door x y false) =
        ((λ e. absurd (omega (arith, e))), ((λ e. (false, inl refl)), ((λ e. (false, inr refl)), ((λ e. absurd (omega (arith, e))), tt))))
    of_thing k (a_box r beside) =
        ((λ e. absurd (omega (arith, e))), ((λ e. absurd (omega (arith, e))), beside-tells _ k beside 2 (λ e. omega (arith, e))))

-- a door that connects two rooms connects them the other way
pub connects-back : (state : RoomState) (d x y : ℕ) → Contains (rendering state) (connects (Obj d) (Obj x) (Obj y))
    → Contains (rendering state) (connects (Obj d) (Obj y) (Obj x))
connects-back state d x y has = about-rendering state d (connects (Obj d) (Obj y) (Obj x)) (at d (connects-fact state d x y has)) where
  at : (k : ℕ) → IsBetween state k x y → Contains (atoms_about state k) (connects (Obj k) (Obj y) (Obj x))
  at zero (is_open, inl is) = absurd (cc)
  at zero (is_open, inr is) = absurd (cc)
  at (suc k) (is_open, inl is) =
      subst (λ one. Contains (atoms_of_thing (suc k) one) (connects (Obj (suc k)) (Obj y) (Obj x))) (sym is) (2, omega arith, refl)
  at (suc k) (is_open, inr is) =
      subst (λ one. Contains (atoms_of_thing (suc k) one) (connects (Obj (suc k)) (Obj y) (Obj x))) (sym is) (1, omega arith, refl)
