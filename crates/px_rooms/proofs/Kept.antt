-- States stay states where one thing changes and keeps its kind.
use Rattle.std.specs.Prelude.{◌≡◌, ◌⊎◌, ◌==◌, ℕ, Bool, true, false, Option, Some, None, List, [], ◌∷◌, map, set, slice_get, Contains, All}
use Rattle.std.proofs.Common.{zero, suc, refl, sym, ap, ◌∙◌, subst, inl, inr}
use Rattle.std.proofs.lemmas.Bool.{eqb-true}
use Rattle.px_base.specs.ListLaws.{All-at, All-each, Contains-cases, Contains-first, Contains-later}
use Rattle.px_rooms.specs.declared.standing.Standing.{Standing}
use Rattle.px_rooms.specs.declared.standing.Standing.TheVariants.{Room as a_room, Door as a_door, Box as a_box}
use Rattle.px_rooms.specs.Changes.{put_beside, put_into, things_with, turned}
use Rattle.px_rooms.specs.States.{IsBoxAt, IsBoxOrDoorOrNone, IsDoorAt, IsDoorOrNone, IsRoomAt, StandsRight, thing_at}
use Rattle.px_rooms.proofs.Effects.{has_at}
use Rattle.px_rooms.proofs.ThingKinds.{kind_of, set-kind}
use Rattle.px_rooms.proofs.Touched.{changed-here, changed-there, differing, read-or}

-- a change that keeps what a thing is, and a door's rooms
pub record KeepsKinds (change : Standing → Standing) : Type 0 where
  pub kind : (one : Standing) → kind_of (change one) ≡ kind_of one
  pub room : change a_room ≡ a_room
  pub door : (x y : ℕ) (was : Bool) → (is : Bool) × (change (a_door x y was) ≡ a_door x y is)
  pub box : (r : ℕ) (beside : Option ℕ) → (s : ℕ) × (after : Option ℕ) × (change (a_box r beside) ≡ a_box s after)

-- what it makes of each kind of thing is enough
keeping : (change : Standing → Standing) → change a_room ≡ a_room
    → ((x y : ℕ) (was : Bool) → (is : Bool) × (change (a_door x y was) ≡ a_door x y is))
    → ((r : ℕ) (beside : Option ℕ) → (s : ℕ) × (after : Option ℕ) × (change (a_box r beside) ≡ a_box s after)) → KeepsKinds change
keeping change room door box = record { kind = kind; room = room; door = door; box = box } where
  kind : (one : Standing) → kind_of (change one) ≡ kind_of one
  kind a_room = ap kind_of room
  kind (a_door x y was) = ap kind_of (door x y was).1
  kind (a_box r beside) = ap kind_of (box r beside).2

pub turned-keeps : (is_open : Bool) → KeepsKinds (turned is_open)
turned-keeps is_open = keeping (turned is_open) refl (λ x y was. (is_open, refl)) (λ r beside. (r, beside, refl))

pub put_beside-keeps : (d : ℕ) → KeepsKinds (put_beside d)
put_beside-keeps d = keeping (put_beside d) refl (λ x y was. (was, refl)) (λ r beside. (r, Some d, refl))

pub put_into-keeps : (s : ℕ) → KeepsKinds (put_into s)
put_into-keeps s = keeping (put_into s) refl (λ x y was. (was, refl)) (λ r beside. (s, None, refl))

set-members : {X : Type 0} (xs : List X) (k : ℕ) (x q : X) → Contains (set xs k x) q → Contains xs q ⊎ (x ≡ q)
set-members [] k x q has = inl has
set-members (y ∷ xs) zero x q has = elim (Contains-cases x xs q has) [ inl is ↦ inr is | inr later ↦ inl (Contains-later y xs q later) ]
set-members (y ∷ xs) (suc k) x q has = elim (Contains-cases y (set xs k x) q has) [
  | inl is ↦ inl (subst (Contains (y ∷ xs)) is (Contains-first y xs))
  | inr later ↦ elim (set-members xs k x q later) [ inl old ↦ inl (Contains-later y xs q old) | inr new ↦ inr new ]
]

module _ (change : Standing → Standing) (keeps : KeepsKinds change) (things : List Standing) (t : ℕ) (was : Standing)
    (here : slice_get things t ≡ Some was) where
  abbrev after : List Standing
  after = things_with (suc t) change things

  at-after : (n : ℕ) (one : Standing) → thing_at things n ≡ Some one
      → (thing_at after n ≡ Some one) ⊎ (thing_at after n ≡ Some (change one))
  at-after zero one is = absurd (cc)
  at-after (suc k) one is = by_number (k == t) refl where
    by_number : (b : Bool) → (k == t) ≡ b → (thing_at after (suc k) ≡ Some one) ⊎ (thing_at after (suc k) ≡ Some (change one))
    by_number true equal =
        inr (subst (λ j. slice_get after j ≡ Some (change one)) (sym (eqb-true k t equal))
        (changed-here change things t one (subst (λ j. slice_get things j ≡ Some one) (eqb-true k t equal) is)))
    by_number false other = inl (changed-there change things t k (differing k t other) ∙ is)

  pub room-stays : (n : ℕ) → IsRoomAt things n → IsRoomAt after n
  room-stays n is = elim (at-after n a_room is) [ inl same ↦ same | inr new ↦ new ∙ ap Some keeps.room ]

  pub door-stays : (n : ℕ) → IsDoorAt things n → IsDoorAt after n
  door-stays n (x, y, is_open, is) = elim (at-after n (a_door x y is_open) is) [
    | inl same ↦ (x, y, is_open, same)
    | inr new ↦ let kept = keeps.door x y is_open in (x, y, kept.0, new ∙ ap Some kept.1)
  ]

  pub box-stays : (n : ℕ) → IsBoxAt things n → IsBoxAt after n
  box-stays n (r, beside, is) = elim (at-after n (a_box r beside) is) [
    | inl same ↦ (r, beside, same)
    | inr new ↦ let kept = keeps.box r beside in (kept.0, kept.1, new ∙ ap Some kept.2)
  ]

  pub beside-stays : (beside : Option ℕ) → IsDoorOrNone things beside → IsDoorOrNone after beside
  beside-stays None is = tt
  beside-stays (Some n) is = door-stays n is

  pub robot-stays : (beside : Option ℕ) → IsBoxOrDoorOrNone things beside → IsBoxOrDoorOrNone after beside
  robot-stays None is = tt
  robot-stays (Some n) (inl is) = inl (box-stays n is)
  robot-stays (Some n) (inr is) = inr (door-stays n is)

  stays-right : (one : Standing) → StandsRight things one → StandsRight after one
  stays-right a_room is = tt
  stays-right (a_door x y is_open) (is_x, is_y, differ) = (room-stays x is_x, room-stays y is_y, differ)
  stays-right (a_box r beside) (is_r, is_beside) = (room-stays r is_r, beside-stays beside is_beside)

  -- all things stand right where the changed one does
  pub all-right : All (StandsRight things) things → StandsRight after (change was) → All (StandsRight after) after
  all-right each new = All-each (StandsRight after) after (λ q has. elim (set-members things t _ q has) [
    | inl old ↦ stays-right q (All-at (StandsRight things) things q each old)
    | inr is ↦ subst (StandsRight after) (ap change (sym (read-or things t was a_room here)) ∙ is) new
  ])

  -- and each thing is still of its kind
  pub same-kinds : map kind_of after ≡ map kind_of things
  same-kinds = set-kind things t was _ here (keeps.kind _ ∙ ap kind_of (read-or things t was a_room here))

  pub was-right : All (StandsRight things) things → StandsRight things was
  was-right each = All-at (StandsRight things) things was each (has_at things t was here)
