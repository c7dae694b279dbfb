-- What a thing is, apart from how it stands: it never changes, and says which edits are admitted.
use Rattle.std.specs.Prelude.{◌≡◌, ◌↔◌, ℕ, Bool, Option, Some, None, List, [], ◌∷◌, map, set, slice_get}
use Rattle.std.specs.Option.{option_map}
use Rattle.std.proofs.Common.{zero, suc, refl, sym, ap, ◌∙◌, subst}
use Rattle.std.proofs.lemmas.Option.{slice_get-map}
use Rattle.px_base.specs.Answers.{some_same}
use Rattle.px_world.specs.declared.edits.RoomEdit.{RoomEdit}
use Rattle.px_world.specs.declared.edits.RoomEdit.TheVariants as edit
use Rattle.px_rooms.specs.declared.standing.Standing.{Standing}
use Rattle.px_rooms.specs.declared.standing.Standing.TheVariants.{Room as a_room, Door as a_door, Box as a_box}
use Rattle.px_rooms.specs.Changes.{IsAdmitted}
use Rattle.px_rooms.specs.States.{IsBoxAt, IsDoorAt, IsRoomAt, RoomState}

abbrev pub kind_of : Standing → ℕ
kind_of a_room = 0
kind_of (a_door x y is_open) = 1
kind_of (a_box r beside) = 2

pub set-kind : (things : List Standing) (k : ℕ) (was is : Standing) → slice_get things k ≡ Some was → kind_of is ≡ kind_of was
    → map kind_of (set things k is) ≡ map kind_of things
set-kind [] k was is here same = refl
set-kind (x ∷ xs) zero was is here same = ap (λ n. n ∷ map kind_of xs) (same ∙ sym (kind-at here)) where
  kind-at : Some x ≡ Some was → kind_of x ≡ kind_of was
  kind-at e = ap kind_of (some_same e)
set-kind (x ∷ xs) (suc k) was is here same = ap (λ ks. kind_of x ∷ ks) (set-kind xs k was is here same)

abbrev HasKind : List Standing → ℕ → ℕ → Type 0
HasKind things kind zero = ⊥
HasKind things kind (suc k) = slice_get (map kind_of things) k ≡ Some kind

room-kind : (things : List Standing) (n : ℕ) → IsRoomAt things n ↔ HasKind things 0 n
room-kind things zero = ((λ is. absurd (cc)), (λ is. absurd is))
room-kind things (suc k) = (
  (λ is. slice_get-map kind_of things k ∙ ap (option_map kind_of) is),
  (λ is. back (slice_get things k) (sym (slice_get-map kind_of things k) ∙ is)),
) where
  back : (one : Option Standing) → option_map kind_of one ≡ Some 0 → one ≡ Some a_room
  back None is = absurd (cc)
  back (Some a_room) is = refl
  back (Some (a_door x y is_open)) is = absurd (cc)
  back (Some (a_box r beside)) is = absurd (cc)

door-kind : (things : List Standing) (n : ℕ) → IsDoorAt things n ↔ HasKind things 1 n
door-kind things zero = ((λ door. absurd (let e = door.3 in cc)), (λ is. absurd is))
door-kind things (suc k) = (
  (λ door. slice_get-map kind_of things k ∙ ap (option_map kind_of) door.3),
  (λ is. back (slice_get things k) (sym (slice_get-map kind_of things k) ∙ is)),
) where
  back : (one : Option Standing) → option_map kind_of one ≡ Some 1
      → (x : ℕ) × (y : ℕ) × (is_open : Bool) × (one ≡ Some (a_door x y is_open))
  back None is = absurd (cc)
  back (Some a_room) is = absurd (cc)
  back (Some (a_door x y is_open)) is = (x, y, is_open, refl)
  back (Some (a_box r beside)) is = absurd (cc)

box-kind : (things : List Standing) (n : ℕ) → IsBoxAt things n ↔ HasKind things 2 n
box-kind things zero = ((λ box. absurd (let e = box.2 in cc)), (λ is. absurd is))
box-kind things (suc k) = (
  (λ box. slice_get-map kind_of things k ∙ ap (option_map kind_of) box.2),
  (λ is. back (slice_get things k) (sym (slice_get-map kind_of things k) ∙ is)),
) where
  back : (one : Option Standing) → option_map kind_of one ≡ Some 2 → (r : ℕ) × (beside : Option ℕ) × (one ≡ Some (a_box r beside))
  back None is = absurd (cc)
  back (Some a_room) is = absurd (cc)
  back (Some (a_door x y is_open)) is = absurd (cc)
  back (Some (a_box r beside)) is = (r, beside, refl)

module _ (old new : RoomState) (same : map kind_of new.things ≡ map kind_of old.things) where
  kind-same : (kind n : ℕ) → HasKind new.things kind n ↔ HasKind old.things kind n
  kind-same kind zero = ((λ is. is), (λ is. is))
  kind-same kind (suc k) =
      ((λ is. subst (λ ks. slice_get ks k ≡ Some kind) same is), (λ is. subst (λ ks. slice_get ks k ≡ Some kind) (sym same) is))

  room-same : (n : ℕ) → IsRoomAt new.things n ↔ IsRoomAt old.things n
  room-same n = (
    (λ is. (room-kind old.things n).1 ((kind-same 0 n).0 ((room-kind new.things n).0 is))),
    (λ is. (room-kind new.things n).1 ((kind-same 0 n).1 ((room-kind old.things n).0 is))),
  )

  door-same : (n : ℕ) → IsDoorAt new.things n ↔ IsDoorAt old.things n
  door-same n = (
    (λ is. (door-kind old.things n).1 ((kind-same 1 n).0 ((door-kind new.things n).0 is))),
    (λ is. (door-kind new.things n).1 ((kind-same 1 n).1 ((door-kind old.things n).0 is))),
  )

  box-same : (n : ℕ) → IsBoxAt new.things n ↔ IsBoxAt old.things n
  box-same n = (
    (λ is. (box-kind old.things n).1 ((kind-same 2 n).0 ((box-kind new.things n).0 is))),
    (λ is. (box-kind new.things n).1 ((kind-same 2 n).1 ((box-kind old.things n).0 is))),
  )

  pub admitted-same : (one : RoomEdit) → IsAdmitted new one ↔ IsAdmitted old one
  admitted-same (edit.Robot r) = room-same r
  admitted-same (edit.Box b r) = ((λ is. ((box-same b).0 is.0, (room-same r).0 is.1)), (λ is. ((box-same b).1 is.0, (room-same r).1 is.1)))
  admitted-same (edit.Door d is_open) = door-same d
