-- Adding the facts of a state to a model, predicate by predicate.
use Rattle.std.specs.Prelude.{◌≡◌, ◌<◌, ◌≤◌, ◌+◌, ◌==◌, ℕ, Bool, true, false, cond, Option, None, Some, nat_lt, List, [], ◌∷◌, ◌++◌, length, take, filter, Contains, slice_index_or}
use Rattle.std.proofs.Common.{zero, suc, refl, sym, ap, ◌∙◌, inl, inr, arith, length-append}
use Rattle.std.proofs.lemmas.Bool.{ltb-true, ltb-false, eqb-true, eq-eqb, lt-ltb, le-ltb, eqb-false}
use Rattle.std.proofs.lemmas.List.{append-nil, append_assoc, length-take-le, take_more}
use Rattle.std.proofs.lemmas.List.Elements.{Contains-append_left, Contains-append_right, Contains-append_cases, filter-append}
use Rattle.px_base.specs.ListLaws.{Contains-filter}
use Rattle.px_base.specs.Sets.{set_of}
use Rattle.px_base.specs.SetLaws.{same_set, set_of-is_sorted, set_of-members, set_of-push}
use Rattle.px_terms.specs.declared.atom.Atom.{Atom}
use Rattle.px_terms.specs.declared.term.Term.TheVariants.{Obj}
use Rattle.px_terms.specs.AtomSets.{atom_set, with_atom}
use Rattle.px_terms.specs.Order.{atom_cmp}
use Rattle.px_terms.specs.OrderLaws.{atom_cmp-total, atom_cmp-same}
use Rattle.px_rooms.specs.declared.standing.Standing.{Standing}
use Rattle.px_rooms.specs.declared.standing.Standing.TheVariants.{Room as a_room, Door as a_door, Box as a_box}
use Rattle.px_rooms.specs.Domain.{in_room, robot}
use Rattle.px_rooms.specs.Added.{AreAdded, of_pred}
use Rattle.px_rooms.specs.States.{IsRoomState, RoomState, all_atoms, atoms_from, beside_atoms, rendering, robot_atoms, thing_atoms}
use Rattle.px_rooms.proofs.Counting.{rendering-length}

-- ---- one atom

pub one-of : (pred : ℕ) (atom : Atom) → (atom.pred == pred) ≡ true → of_pred pred (atom ∷ []) ≡ atom ∷ []
one-of pred atom is = ap (λ b. cond b (atom ∷ []) []) is

pub one-put : (before : List Atom) (pred : ℕ) (atom : Atom) (old new : List Atom) → (atom.pred == pred) ≡ true → old ≡ atom_set before
    → new ≡ with_atom atom old → new ≡ atom_set (before ++ of_pred pred (atom ∷ []))
one-put before pred atom old new is was put =
    put ∙ ap (with_atom atom) was ∙ set_of-push atom_cmp atom_cmp-total atom_cmp-same before atom
    ∙ ap (λ xs. atom_set (before ++ xs)) (sym (one-of pred atom is))

pub one-added : (pred : ℕ) (atom : Atom) (old new : List Atom) → (atom.pred == pred) ≡ true → new ≡ with_atom atom old
    → AreAdded (of_pred pred (atom ∷ [])) old new
one-added pred atom old new is put = λ before was. one-put before pred atom old new is was put

-- ---- more atoms behind those that are there

pub more-atoms : (before done new all into : List Atom) → all ≡ done ++ new → into ≡ atom_set ((before ++ done) ++ new)
    → into ≡ atom_set (before ++ all)
more-atoms before done new all into is put = put ∙ ap atom_set (append_assoc before done new ∙ ap (λ xs. before ++ xs) (sym is))

pub more-room : (done new next total : List Atom) (room left : ℕ) → next ≡ done ++ new → length next ≤ length total → length total ≤ room
    → room ≤ left + length done → length new ≤ left
more-room done new next total room left is within enough kept =
    let parts = ap length is in omega (arith, parts, within, enough, kept, length-append done new)

pub more-spare : (done new next : List Atom) (room old left : ℕ) → next ≡ done ++ new → room ≤ old + length done → old ≤ left + length new
    → room ≤ left + length next
more-spare done new next room old left is kept less = let parts = ap length is in omega (arith, parts, kept, less, length-append done new)

-- ---- of the things

from-push : (n : ℕ) (things : List Standing) (one : Standing)
    → atoms_from n (things ++ one ∷ []) ≡ atoms_from n things ++ thing_atoms (n + length things) one
from-push n [] one = append-nil (thing_atoms n one) ∙ ap (λ k. thing_atoms k one) (omega arith)
from-push n (x ∷ xs) one =
    ap (λ ys. thing_atoms n x ++ ys) (from-push (n + 1) xs one)
    ∙ sym (append_assoc (thing_atoms n x) (atoms_from (n + 1) xs) (thing_atoms (n + 1 + length xs) one))
    ∙ ap (λ k. (thing_atoms n x ++ atoms_from (n + 1) xs) ++ thing_atoms k one) (omega arith)

-- the facts of one more thing
from-more : (things : List Standing) (k : ℕ) (d : Standing) → k < length things
    → atoms_from 1 (take (k + 1) things) ≡ atoms_from 1 (take k things) ++ thing_atoms (k + 1) (slice_index_or things k d)
from-more things k d below =
    let count = length-take-le k things (omega (arith, below)) in
    ap (atoms_from 1) (take_more things k d below) ∙ from-push 1 (take k things) (slice_index_or things k d)
    ∙ ap (λ n. atoms_from 1 (take k things) ++ thing_atoms n (slice_index_or things k d)) (omega (arith, count))

-- how many they are
pub count-next : (things : List Standing) (k : ℕ) (d : Standing) (count more : ℕ) → k < length things
    → count ≡ length (atoms_from 1 (take k things)) → more ≡ length (thing_atoms (k + 1) (slice_index_or things k d))
    → count + more ≡ length (atoms_from 1 (take (k + 1) things))
count-next things k d count more below before one =
    let parts = length-append (atoms_from 1 (take k things)) (thing_atoms (k + 1) (slice_index_or things k d)) in
    omega (arith, before, one, parts, ap length (from-more things k d below))

-- those of a predicate
pub from-next : (pred : ℕ) (things : List Standing) (k : ℕ) (d : Standing) → k < length things
    → of_pred pred (atoms_from 1 (take (k + 1) things))
    ≡ of_pred pred (atoms_from 1 (take k things)) ++ of_pred pred (thing_atoms (k + 1) (slice_index_or things k d))
from-next pred things k d below =
    ap (of_pred pred) (from-more things k d below)
    ∙ filter-append (λ (a : Atom). a.pred == pred) (atoms_from 1 (take k things)) (thing_atoms (k + 1) (slice_index_or things k d))

from-split : (pred n : ℕ) (one : Standing) (things : List Standing)
    → length (of_pred pred (atoms_from n (one ∷ things)))
    ≡ length (of_pred pred (thing_atoms n one)) + length (of_pred pred (atoms_from (n + 1) things))
from-split pred n one things =
    ap length (filter-append (λ (a : Atom). a.pred == pred) (thing_atoms n one) (atoms_from (n + 1) things))
    ∙ length-append (of_pred pred (thing_atoms n one)) (of_pred pred (atoms_from (n + 1) things))

pub from-within : (pred n : ℕ) (things : List Standing) (k : ℕ)
    → length (of_pred pred (atoms_from n (take k things))) ≤ length (of_pred pred (atoms_from n things))
from-within pred n [] zero = omega arith
from-within pred n [] (suc k) = omega arith
from-within pred n (x ∷ xs) zero = omega arith
from-within pred n (x ∷ xs) (suc k) =
    let rest = from-within pred (n + 1) xs k in omega (arith, rest, from-split pred n x (take k xs), from-split pred n x xs)

-- ---- of all facts, the predicates one after another

-- those of the first predicates
abbrev pub below : ℕ → List Atom → List Atom
below k atoms = filter (λ (a : Atom). nat_lt a.pred k) atoms

pub below-none : (atoms : List Atom) → below 0 atoms ≡ []
below-none [] = refl
below-none (x ∷ xs) = ap (λ b. cond b (x ∷ below 0 xs) (below 0 xs)) (le-ltb x.pred 0 (omega arith)) ∙ below-none xs

next-lt : (n k : ℕ) → nat_lt n k ≡ true → nat_lt n (k + 1) ≡ true
next-lt n k is = let less = ltb-true n k is in lt-ltb n (k + 1) (omega (arith, less))

next-eq : (n k : ℕ) → (n == k) ≡ true → nat_lt n (k + 1) ≡ true
next-eq n k is = let same = eqb-true n k is in lt-ltb n (k + 1) (omega (arith, same))

last-eq : (n k : ℕ) → nat_lt n k ≡ false → nat_lt n (k + 1) ≡ true → (n == k) ≡ true
last-eq n k isnt is = let more = ltb-false n k isnt in let less = ltb-true n (k + 1) is in eq-eqb n k (omega (arith, more, less))

-- one more predicate
pub below-more : (k : ℕ) (atoms : List Atom) → atom_set (below k atoms ++ of_pred k atoms) ≡ atom_set (below (k + 1) atoms)
below-more k atoms =
    same_set atom_cmp atom_cmp-total atom_cmp-same (atom_set (below k atoms ++ of_pred k atoms)) (atom_set (below (k + 1) atoms))
    (set_of-is_sorted atom_cmp atom_cmp-total atom_cmp-same (below k atoms ++ of_pred k atoms))
    (set_of-is_sorted atom_cmp atom_cmp-total atom_cmp-same (below (k + 1) atoms))
    (λ q.
    let both = set_of-members atom_cmp atom_cmp-total atom_cmp-same (below k atoms ++ of_pred k atoms) q in
    let next = set_of-members atom_cmp atom_cmp-total atom_cmp-same (below (k + 1) atoms) q in
    let less = Contains-filter (λ (a : Atom). nat_lt a.pred k) atoms q in
    let same = Contains-filter (λ (a : Atom). a.pred == k) atoms q in
    let all = Contains-filter (λ (a : Atom). nat_lt a.pred (k + 1)) atoms q in (
      λ h. next.1 (all.1 (elim (Contains-append_cases (below k atoms) (of_pred k atoms) q (both.0 h)) [
        | inl here ↦ ((less.0 here).0, next-lt q.pred k (less.0 here).1)
        | inr there ↦ ((same.0 there).0, next-eq q.pred k (same.0 there).1)
      ])),
      λ h. let has =
          all.0 (next.0 h) in both.1 (elim (nat_lt q.pred k) as (λ b. nat_lt q.pred k ≡ b → Contains (below k atoms ++ of_pred k atoms) q) [
            | true ↦ λ is. Contains-append_left (below k atoms) (of_pred k atoms) q (less.1 (has.0, is))
            | false ↦ λ isnt. Contains-append_right (below k atoms) (of_pred k atoms) q (same.1 (has.0, last-eq q.pred k isnt has.1))
          ] refl),
    ))

-- the last is so where one of the others is, and both never are
abbrev IsOneOf : Bool → Bool → Bool → Type 0
IsOneOf true true c = ⊥
IsOneOf true false c = c ≡ true
IsOneOf false b c = c ≡ b

is-one : (n k : ℕ) → IsOneOf (nat_lt n k) (n == k) (nat_lt n (k + 1))
is-one n k = by-lt (nat_lt n k) (n == k) refl refl where
  by-lt : (a b : Bool) → nat_lt n k ≡ a → (n == k) ≡ b → IsOneOf a b (nat_lt n (k + 1))
  by-lt true true less same = let l = ltb-true n k less in let s = eqb-true n k same in absurd (omega (arith, l, s))
  by-lt true false less same = next-lt n k less
  by-lt false true less same = next-eq n k same
  by-lt false false less same = le-ltb n (k + 1) (later (ltb-false n k less) (eqb-false n k same)) where
    later : k ≤ n → ¬ (n ≡ k) → k + 1 ≤ n
    later most differ = omega (arith, most, differ)

one-longer : (a b c : Bool) (x : Atom) (us vs ws : List Atom) → IsOneOf a b c → length us + length vs ≡ length ws
    → length (cond a (x ∷ us) us) + length (cond b (x ∷ vs) vs) ≡ length (cond c (x ∷ ws) ws)
one-longer true true c x us vs ws one is = absurd one
one-longer true false c x us vs ws one is = omega (arith, is) ∙ ap (λ b. length (cond b (x ∷ ws) ws)) (sym one)
one-longer false true c x us vs ws one is = omega (arith, is) ∙ ap (λ b. length (cond b (x ∷ ws) ws)) (sym one)
one-longer false false c x us vs ws one is = is ∙ ap (λ b. length (cond b (x ∷ ws) ws)) (sym one)

pub below-longer : (k : ℕ) (atoms : List Atom) → length (below k atoms) + length (of_pred k atoms) ≡ length (below (k + 1) atoms)
below-longer k [] = refl
below-longer k (x ∷ xs) =
    one-longer (nat_lt x.pred k) (x.pred == k) (nat_lt x.pred (k + 1)) x (below k xs) (of_pred k xs) (below (k + 1) xs) (is-one x.pred k)
    (below-longer k xs)

shorter : (b : Bool) (x : Atom) (us xs : List Atom) → length us ≤ length xs → length (cond b (x ∷ us) us) ≤ length (x ∷ xs)
shorter true x us xs few = omega (arith, few)
shorter false x us xs few = omega (arith, few)

pub below-few : (k : ℕ) (atoms : List Atom) → length (below k atoms) ≤ length atoms
below-few k [] = omega arith
below-few k (x ∷ xs) = shorter (nat_lt x.pred k) x (below k xs) xs (below-few k xs)

below-robot : (beside : Option ℕ) → below 8 (beside_atoms 0 beside) ≡ beside_atoms 0 beside
below-robot None = refl
below-robot (Some x) = refl

below-thing : (n : ℕ) (one : Standing) → below 8 (thing_atoms n one) ≡ thing_atoms n one
below-thing n a_room = refl
below-thing n (a_door x y true) = refl
below-thing n (a_door x y false) = refl
below-thing n (a_box r None) = refl
below-thing n (a_box r (Some x)) = refl

below-from : (n : ℕ) (things : List Standing) → below 8 (atoms_from n things) ≡ atoms_from n things
below-from n [] = refl
below-from n (one ∷ things) =
    filter-append (λ (a : Atom). nat_lt a.pred 8) (thing_atoms n one) (atoms_from (n + 1) things)
    ∙ ap (λ xs. xs ++ below 8 (atoms_from (n + 1) things)) (below-thing n one)
    ∙ ap (λ ys. thing_atoms n one ++ ys) (below-from (n + 1) things)

-- each fact is of one of the eight predicates
pub below-all : (state : RoomState) → below 8 (all_atoms state) ≡ all_atoms state
below-all state =
    filter-append (λ (a : Atom). nat_lt a.pred 8) (robot_atoms state) (atoms_from 1 state.things)
    ∙ ap (λ xs. xs ++ below 8 (atoms_from 1 state.things))
    (ap (λ xs. in_room robot (Obj state.robot_room) ∷ xs) (below-robot state.robot_beside))
    ∙ ap (λ ys. robot_atoms state ++ ys) (below-from 1 state.things)

-- the facts of a predicate have room where all facts that aren't there yet have
pub pred-room : (state : RoomState) (k room left : ℕ) → IsRoomState state → length (rendering state) ≤ room
    → room ≤ left + length (below k (all_atoms state)) → length (of_pred k (all_atoms state)) ≤ left
pred-room state k room left is enough kept =
    omega (arith, enough, kept, rendering-length state is, below-longer k (all_atoms state), below-few (k + 1) (all_atoms state))

-- in all as much is taken as there are facts
pub all-spare : (state : RoomState) (room left : ℕ) → IsRoomState state → room ≤ left + length (below 8 (all_atoms state))
    → room ≤ left + length (rendering state)
all-spare state room left is kept = let whole = ap length (below-all state) in omega (arith, kept, whole, rendering-length state is)

no-atoms : [] ≡ atom_set []
unfolding set_of
no-atoms = refl

-- none of them is taken at first
pub none-yet : (state : RoomState) (atoms : List Atom) → atoms ≡ [] → atoms ≡ atom_set (below 0 (all_atoms state))
none-yet state atoms is = is ∙ no-atoms ∙ ap atom_set (sym (below-none (all_atoms state)))
