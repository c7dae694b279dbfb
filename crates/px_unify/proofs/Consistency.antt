-- What one more change, or one fewer, does to the slots and to the room for bindings.
use Rattle.std.proofs.Common.{◌≡◌, ℕ, zero, suc, ◌+◌, ◌-◌, ◌<◌, ◌≤◌, Some, None, List, [], ◌∷◌, ◌++◌, length, set, take, slice_get, refl, ap, sym, ◌∙◌, arith, length-append, length-set, replicate, ◌*◌}
use Rattle.std.proofs.lemmas.List.{length-replicate}
use Rattle.std.proofs.lemmas.Option.{slice_get_within}
use Rattle.std.proofs.Math.Seq.{take-append_seam}
use Rattle.px_terms.specs.declared.term.Term.{Term}
use Rattle.px_terms.specs.declared.term.Term.TheVariants.{Any}
use Rattle.px_unify.specs.declared.change.Change.{Change}
use Rattle.px_unify.specs.declared.change.Change.TheVariants.{Fresh, Bound}
use Rattle.px_unify.specs.declared.change.TheConstants.{MOST_VARIABLES}
use Rattle.px_terms.specs.Language.{IsPlainBelow}
use Rattle.px_unify.specs.Changes.{slots_after, slots_of, IsUnbound, WellBound, IsConsistent}
use Rattle.px_unify.specs.ChangeLaws.{slots_after-append, slots-fresh}
use Rattle.px_unify.proofs.Slots.{Slots}

WellBound-push : (prefix rest : List Change) (slots : Slots) → WellBound slots prefix → WellBound (slots_after slots prefix) rest
    → WellBound slots (prefix ++ rest)
WellBound-push [] rest slots well more = more
WellBound-push (Fresh ∷ prefix) rest slots well more = WellBound-push prefix rest (slots ++ None ∷ []) well more
WellBound-push (Bound v term ∷ prefix) rest slots well more =
    (well.0, well.1, WellBound-push prefix rest (set slots v (Some term)) well.2 more)

WellBound-prefix : (prefix rest : List Change) (slots : Slots) → WellBound slots (prefix ++ rest)
    → WellBound slots prefix × WellBound (slots_after slots prefix) rest
WellBound-prefix [] rest slots well = (tt, well)
WellBound-prefix (Fresh ∷ prefix) rest slots well = WellBound-prefix prefix rest (slots ++ None ∷ []) well
WellBound-prefix (Bound v term ∷ prefix) rest slots well =
    let later = WellBound-prefix prefix rest (set slots v (Some term)) well.2 in
    ((well.0, well.1, later.0), later.1)

WellBound-fresh : (n : ℕ) (slots : Slots) → WellBound slots (replicate n Fresh)
WellBound-fresh zero slots = tt
WellBound-fresh (suc n) slots = WellBound-fresh n (slots ++ None ∷ [])

-- how many variables are not bound
abbrev unbound_count : Slots → ℕ
unbound_count [] = 0
unbound_count (None ∷ slots) = 1 + unbound_count slots
unbound_count (Some term ∷ slots) = unbound_count slots

unbound_count-set : (slots : Slots) (v : ℕ) (term : Term) → slice_get slots v ≡ Some None
    → suc (unbound_count (set slots v (Some term))) ≡ unbound_count slots
unbound_count-set [] v term at = absurd (cc)
unbound_count-set (None ∷ slots) zero term at = omega arith
unbound_count-set (Some old ∷ slots) zero term at = absurd (cc)
unbound_count-set (None ∷ slots) (suc v) term at = omega (arith, unbound_count-set slots v term at)
unbound_count-set (Some old ∷ slots) (suc v) term at = unbound_count-set slots v term at

unbound_count-push : (slots : Slots) → unbound_count (slots ++ None ∷ []) ≡ suc (unbound_count slots)
unbound_count-push [] = omega arith
unbound_count-push (None ∷ slots) = omega (arith, unbound_count-push slots)
unbound_count-push (Some term ∷ slots) = unbound_count-push slots

unbound_count-pos : (slots : Slots) (v : ℕ) → slice_get slots v ≡ Some None → 0 < unbound_count slots
unbound_count-pos slots v at = omega (arith, unbound_count-set slots v Any at)

-- a variable and its binding are two changes
two_each_after : (changes : List Change) (slots : Slots) → WellBound slots changes
    → length changes + unbound_count (slots_after slots changes) + 2 * length slots
    ≡ 2 * length (slots_after slots changes) + unbound_count slots
two_each_after [] slots well = omega arith
two_each_after (Fresh ∷ changes) slots well =
    omega (arith, two_each_after changes (slots ++ None ∷ []) well, unbound_count-push slots, length-append slots (None ∷ []))
two_each_after (Bound v term ∷ changes) slots well =
    omega (
      arith,
      two_each_after changes (set slots v (Some term)) well.2,
      unbound_count-set slots v term well.0,
      length-set slots v (Some term),
    )

two_each_of : (changes : List Change) → WellBound [] changes
    → length changes + unbound_count (slots_of changes) ≡ 2 * length (slots_of changes)
two_each_of changes well = omega (arith, two_each_after changes [] well)

pub two_each : (changes : List Change) (slots : Slots) (capacity : ℕ) → IsConsistent changes slots capacity
    → length changes ≤ 2 * length slots
two_each changes slots capacity is = rw is.slots_are (omega (arith, two_each_of changes is.bound))

-- where a variable is not bound, there is room for its binding
pub room_left : (changes : List Change) (slots : Slots) (capacity v : ℕ) → IsConsistent changes slots capacity → IsUnbound changes v
    → length changes < capacity
room_left changes slots capacity v is unbound =
    omega (arith, is.room, ap length is.slots_are, two_each_of changes is.bound, unbound_count-pos (slots_of changes) v unbound)

pub unbound-within : (changes : List Change) (slots : Slots) (capacity v : ℕ) → IsConsistent changes slots capacity → IsUnbound changes v
    → v < length slots
unbound-within changes slots capacity v is unbound = rw is.slots_are (slice_get_within (slots_of changes) v None unbound)

set-back : {X : Type 0} (xs : List X) (v : ℕ) (x y : X) → slice_get xs v ≡ Some x → set (set xs v y) v x ≡ xs
set-back [] v x y at = refl
set-back (z ∷ xs) zero x y at = let same : z ≡ x = cc in ap (λ w. w ∷ xs) (sym same)
set-back (z ∷ xs) (suc v) x y at = ap (λ ws. z ∷ ws) (set-back xs v x y at)

pub consistent-bind : (changes : List Change) (slots : Slots) (capacity larger v : ℕ) (term : Term) → IsConsistent changes slots capacity
    → capacity ≤ larger
    → IsUnbound changes v → IsPlainBelow v term → IsConsistent (changes ++ Bound v term ∷ []) (set slots v (Some term)) larger
consistent-bind changes slots capacity larger v term is grown unbound earlier = record {
  slots_are = rw (is.slots_are, slots_after-append changes (Bound v term ∷ []) []) refl;
  bound = WellBound-push changes (Bound v term ∷ []) [] is.bound (unbound, earlier, tt);
  room = omega (arith, is.room, grown, length-set slots v (Some term));
  few = omega (arith, is.few, length-set slots v (Some term));
}

consistent-undo_bind : (prefix : List Change) (slots : Slots) (capacity v : ℕ) (term : Term)
    → IsConsistent (prefix ++ Bound v term ∷ []) slots capacity → IsConsistent prefix (set slots v None) capacity
consistent-undo_bind prefix slots capacity v term is =
    let well = WellBound-prefix prefix (Bound v term ∷ []) [] is.bound in
    record {
      slots_are =
          rw (is.slots_are, slots_after-append prefix (Bound v term ∷ []) []) (set-back (slots_of prefix) v None (Some term) well.1.0);
      bound = well.0;
      room = omega (arith, is.room, length-set slots v None);
      few = omega (arith, is.few, length-set slots v None);
    }

consistent-undo_fresh : (prefix : List Change) (slots : Slots) (capacity : ℕ) → IsConsistent (prefix ++ Fresh ∷ []) slots capacity
    → IsConsistent prefix (take (length slots - 1) slots) capacity
consistent-undo_fresh prefix slots capacity is =
    let well = WellBound-prefix prefix (Fresh ∷ []) [] is.bound in
    let pushed : slots ≡ slots_of prefix ++ None ∷ [] = is.slots_are ∙ slots_after-append prefix (Fresh ∷ []) [] in
    let before : take (length slots - 1) slots ≡ slots_of prefix = rw pushed (take_pushed (slots_of prefix) None) in
    let count : length slots ≡ length (slots_of prefix) + 1 = ap length pushed ∙ length-append (slots_of prefix) (None ∷ []) in
    record {
      slots_are = before;
      bound = well.0;
      room = rw before (omega (arith, is.room, count));
      few = rw before (omega (arith, is.few, count));
    }
  where
    take_pushed : {X : Type 0} (xs : List X) (x : X) → take (length (xs ++ x ∷ []) - 1) (xs ++ x ∷ []) ≡ xs
    take_pushed xs x =
        let short : length (xs ++ x ∷ []) - 1 ≡ length xs =
        omega (arith, length-append xs (x ∷ [])) in rw short (take-append_seam xs (x ∷ []))

pub consistent-fresh : (changes : List Change) (slots : Slots) (capacity larger n : ℕ) (new : List Change) (new_slots : Slots)
    → IsConsistent changes slots capacity
    → new ≡ changes ++ replicate n Fresh → new_slots ≡ slots ++ replicate n None → 2 * (length slots + n) ≤ larger
    → length slots + n ≤ MOST_VARIABLES → IsConsistent new new_slots larger
consistent-fresh changes slots capacity larger n new new_slots is added longer enough few = record {
  slots_are = longer ∙ ap (λ xs. xs ++ replicate n None) is.slots_are ∙ sym (slots-fresh changes n) ∙ ap slots_of (sym added);
  bound = rw added (WellBound-push changes (replicate n Fresh) [] is.bound (WellBound-fresh n (slots_of changes)));
  room = omega (arith, enough, count);
  few = omega (arith, few, count);
}
  where
    count : length new_slots ≡ length slots + n
    count = ap length longer ∙ length-append slots (replicate n None) ∙ ap (λ k. length slots + k) (length-replicate n None)

-- the same, where the last change is known by equations
module _ (changes prefix : List Change) (last : Change) (slots : Slots) (capacity : ℕ) (is : IsConsistent changes slots capacity)
    (splits : changes ≡ prefix ++ last ∷ []) where
  last-fresh : last ≡ Fresh → IsConsistent (prefix ++ Fresh ∷ []) slots capacity
  last-fresh fresh = rw (splits, fresh) at is

  last-bound : (v : ℕ) (term : Term) → last ≡ Bound v term → IsConsistent (prefix ++ Bound v term ∷ []) slots capacity
  last-bound v term bound = rw (splits, bound) at is

  pub undo-fresh : last ≡ Fresh → IsConsistent prefix (take (length slots - 1) slots) capacity
  undo-fresh fresh = consistent-undo_fresh prefix slots capacity (last-fresh fresh)

  pub undo-bound : (v : ℕ) (term : Term) → last ≡ Bound v term → IsConsistent prefix (set slots v None) capacity
  undo-bound v term bound = consistent-undo_bind prefix slots capacity v term (last-bound v term bound)

  pub undo-within : (v : ℕ) (term : Term) → last ≡ Bound v term → v < length slots
  undo-within v term bound = within (last-bound v term bound)
    where
      within : IsConsistent (prefix ++ Bound v term ∷ []) slots capacity → v < length slots
      within consistent =
          let well = WellBound-prefix prefix (Bound v term ∷ []) [] consistent.bound in
          let here : v < length (slots_of prefix) = slice_get_within (slots_of prefix) v None well.1.0 in
          rw (consistent.slots_are, slots_after-append prefix (Bound v term ∷ []) [], length-set) here
