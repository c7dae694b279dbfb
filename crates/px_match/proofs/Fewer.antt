-- How many atoms a set has beside another.
use Rattle.std.specs.Prelude.{◌≡◌, ◌⊎◌, ◌≤◌, ◌+◌, ℕ, Bool, true, false, List, [], ◌∷◌, length, Contains, remove, slice_get, Some, IsTrue, MatchBool}
use Rattle.std.proofs.Common.{refl, sym, ap, ◌∙◌, subst, inl, inr, arith}
use Rattle.std.specs.Cmp.{tied_itself}
use Rattle.std.specs.List.Sorted.{IsStrictlySortedBy}
use Rattle.std.specs.declared.cmp.Ordering.{Ordering}
use Rattle.std.specs.declared.cmp.Ordering.TheVariants.{Less, Equal}
use Rattle.px_base.specs.ListLaws.{AllByRecursion-at, Contains-cases, Contains-first, Contains-later, Contains-none}
use Rattle.px_base.specs.SetLaws.{with_item-members}
use Rattle.px_base.specs.Answers.{both_answers, some_same}
use Rattle.px_terms.specs.declared.atom.Atom.{Atom}
use Rattle.px_terms.specs.AtomSets.{IsAtomSet, with_atom}
use Rattle.px_terms.specs.Order.{atom_cmp, atom_eq}
use Rattle.px_terms.specs.OrderLaws.{atom_cmp-same, atom_cmp-total, atom_eq-decides}
use Rattle.px_proof.specs.PlaceLaws.{length-remove, other_part, slice_get-read, slice_get-within}
use Rattle.px_ops.specs.ModelLaws.{without_atom-ascending, without_atom-members}
use Rattle.px_ops.specs.Models.{without_atom}
use Rattle.px_ops.specs.ModelValue.{ModelValue}
use Rattle.px_match.specs.Keeping.{HasCapacity, HasPlaces}

-- no atom stands twice
abbrev AreDifferent : List Atom → Type 0
AreDifferent [] = Unit {0}
AreDifferent (x ∷ xs) = (¬ Contains xs x) × AreDifferent xs

pub less_itself : (a : Atom) → ¬ (atom_cmp a a ≡ Less)
less_itself a less = differs (sym less ∙ tied_itself atom_cmp-total a)
  where
    differs : ¬ (◌≡◌ {A = Ordering} Less Equal)
    differs e = cc

set_different : (xs : List Atom) → IsAtomSet xs → AreDifferent xs
unfolding IsStrictlySortedBy
set_different [] set = tt
set_different (x ∷ xs) set = (λ has. less_itself x (AllByRecursion-at (λ y. atom_cmp x y ≡ Less) xs x set.0 has), set_different xs set.1)

place_of : (xs : List Atom) (x : Atom) → Contains xs x → (k : ℕ) × (slice_get xs k ≡ Some x)
place_of xs x (k, below, is) = (k, slice_get-read xs k x below ∙ ap (λ y. Some y) is)

at_place : (xs : List Atom) (k : ℕ) (x : Atom) → slice_get xs k ≡ Some x → Contains xs x
at_place xs k x at = let below = slice_get-within xs k x at in (k, below, some_same (sym (slice_get-read xs k x below) ∙ at))

no_more : (xs ys : List Atom) → AreDifferent xs → ((q : Atom) → Contains xs q → Contains ys q) → length xs ≤ length ys
no_more [] ys different within = omega arith
no_more (x ∷ xs) ys different within =
    let place = place_of ys x (within x (Contains-first x xs)) in
    let rest =
    no_more xs (remove ys place.0) different.1 (λ y has. kept place.0 place.1 y has
    (place_of ys y (within y (Contains-later x xs y has)))) in
    omega (arith, rest, length-remove ys place.0 (slice_get-within ys place.0 x place.1))
  where
    kept : (place : ℕ) → slice_get ys place ≡ Some x → (y : Atom) → Contains xs y → (k : ℕ) × (slice_get ys k ≡ Some y)
        → Contains (remove ys place) y
    kept place at y has (k, there) = elim (other_part ys place k y there) [
      | inl same ↦ absurd (different.0 (subst (Contains xs) (some_same (sym there ∙ ap (slice_get ys) same ∙ at)) has))
      | inr other ↦ at_place (remove ys place) other.0 y other.1
    ]

-- a set within a list that has one atom more is shorter than it
pub shorter : (xs ys : List Atom) (atom : Atom) → IsAtomSet xs → ((q : Atom) → Contains xs q → Contains ys q) → Contains ys atom
    → ¬ Contains xs atom → length xs + 1 ≤ length ys
shorter xs ys atom set within has hasnt =
    let all =
    no_more (atom ∷ xs) ys (hasnt, set_different xs set)
    (λ q h. elim (Contains-cases atom xs q h) [ inl same ↦ subst (Contains ys) same has | inr later ↦ within q later ]) in
    omega (arith, all)

-- a set with a new atom has one more
pub with_atom-longer : (atom : Atom) (xs : List Atom) → IsAtomSet xs → ¬ Contains xs atom → length xs + 1 ≤ length (with_atom atom xs)
with_atom-longer atom xs set hasnt =
    let members : (q : Atom) → Contains (atom ∷ xs) q → Contains (with_atom atom xs) q =
    λ q. (with_item-members atom_cmp atom_cmp-total atom_cmp-same atom xs q).1 in
    shorter xs (with_atom atom xs) atom set (λ q h. members q (Contains-later atom xs q h)) (members atom (Contains-first atom xs)) hasnt

either_atom : (q atom : Atom) → (q ≡ atom) ⊎ (¬ (q ≡ atom))
either_atom q atom = elim (atom_eq q atom) as (λ t. atom_eq q atom ≡ t → (q ≡ atom) ⊎ (¬ (q ≡ atom))) [
  | true ↦ λ is. inl ((atom_eq-decides q atom).0 is)
  | false ↦ λ is. inr (λ same. both_answers (atom_eq q atom) is ((atom_eq-decides q atom).1 same))
] refl

has_or_not : (xs : List Atom) (q : Atom) → Contains xs q ⊎ (¬ Contains xs q)
has_or_not [] q = inr (Contains-none q)
has_or_not (x ∷ xs) q = elim (either_atom x q) [
  | inl same ↦ inl (subst (Contains (x ∷ xs)) same (Contains-first x xs))
  | inr other ↦ elim (has_or_not xs q) [
    | inl has ↦ inl (Contains-later x xs q has)
    | inr hasnt ↦ inr (λ h. elim (Contains-cases x xs q h) [ inl same ↦ other same | inr later ↦ hasnt later ])
  ]
]

-- a set within a list that is no longer has all that the list has
pub as_many : (xs ys : List Atom) → IsAtomSet xs → ((q : Atom) → Contains xs q → Contains ys q) → length xs ≡ length ys → (q : Atom)
    → Contains ys q → Contains xs q
as_many xs ys set within same q there = elim (has_or_not xs q) [
  | inl has ↦ has
  | inr hasnt ↦ let less = shorter xs ys q set within there hasnt in absurd (omega (arith, less, same))
]

-- a set has at most one more than without an atom
without_atom-near : (atom : Atom) (xs : List Atom) → IsAtomSet xs → length xs ≤ length (without_atom atom xs) + 1
without_atom-near atom xs set =
    let all = no_more xs (atom ∷ without_atom atom xs) (set_different xs set) (λ q h. elim (either_atom q atom) [
      | inl same ↦ subst (Contains (atom ∷ without_atom atom xs)) (sym same) (Contains-first atom (without_atom atom xs))
      | inr other ↦ Contains-later atom (without_atom atom xs) q ((without_atom-members atom xs q).1 (h, other))
    ]) in
    omega (arith, all)

-- and as many where the atom isn't in it
without_atom-same : (atom : Atom) (xs : List Atom) → IsAtomSet xs → ¬ Contains xs atom → length xs ≤ length (without_atom atom xs)
without_atom-same atom xs set hasnt =
    no_more xs (without_atom atom xs) (set_different xs set)
    (λ q h. (without_atom-members atom xs q).1 (h, λ same. hasnt (subst (Contains xs) same h)))

-- without an atom that it has a set is shorter
pub without_atom-shorter : (atom : Atom) (xs : List Atom) → IsAtomSet xs → Contains xs atom → length (without_atom atom xs) + 1 ≤ length xs
without_atom-shorter atom xs set has =
    shorter (without_atom atom xs) xs atom (without_atom-ascending atom xs set) (λ q h. ((without_atom-members atom xs q).0 h).0) has
    (λ h. ((without_atom-members atom xs atom).0 h).1 refl)

-- ---- room

-- a list from which an atom is taken keeps its room
pub room_taken : (room : ℕ) (atom : Atom) (old new : ModelValue) (was : Bool) → IsAtomSet old.atoms
    → new.atoms ≡ without_atom atom old.atoms → MatchBool was (Contains old.atoms atom) (¬ Contains old.atoms atom)
    → old.spare ≤ new.spare → (IsTrue was → old.spare + 1 ≤ new.spare) → HasCapacity room old → HasCapacity room new
room_taken room atom old new true set is there kept won has =
    let near = without_atom-near atom old.atoms set in
    let more = won refl in
    rw is (omega (arith, near, more, has))
room_taken room atom old new false set is there kept won has =
    let same = without_atom-same atom old.atoms set there in
    rw is (omega (arith, same, kept, has))

-- and one into which a new atom is put
pub room_put : (room : ℕ) (atom : Atom) (old new : ModelValue) → IsAtomSet old.atoms → new.atoms ≡ with_atom atom old.atoms
    → ¬ Contains old.atoms atom → old.spare ≤ new.spare + 1 → HasCapacity room old → HasCapacity room new
room_put room atom old new set is hasnt left has =
    let longer = with_atom-longer atom old.atoms set hasnt in
    rw is (omega (arith, longer, left, has))

-- so a mark's list keeps its places
pub places_taken : (room : ℕ) (mark atom : Atom) (old new : ModelValue) (was : Bool) → IsAtomSet old.atoms
    → new.atoms ≡ without_atom atom old.atoms → MatchBool was (Contains old.atoms atom) (¬ Contains old.atoms atom)
    → old.spare ≤ new.spare → (IsTrue was → old.spare + 1 ≤ new.spare) → HasPlaces room mark old → HasPlaces room mark new
places_taken room mark atom old new was set is there kept won has = elim has [
  | inl places ↦ inl (room_taken room atom old new was set is there kept won places)
  | inr plain ↦ inr (plain.0, room_taken 1 atom old new was set is there kept won plain.1)
]

pub places_put : (room : ℕ) (mark atom : Atom) (old new : ModelValue) → IsAtomSet old.atoms → new.atoms ≡ with_atom atom old.atoms
    → ¬ Contains old.atoms atom → old.spare ≤ new.spare + 1 → HasPlaces room mark old → HasPlaces room mark new
places_put room mark atom old new set is hasnt left has = elim has [
  | inl places ↦ inl (room_put room atom old new set is hasnt left places)
  | inr plain ↦ inr (plain.0, room_put 1 atom old new set is hasnt left plain.1)
]
