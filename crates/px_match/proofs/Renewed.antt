-- The kept atoms and their lists, when an atom of a new sensing came or one is gone.
use Rattle.std.specs.Prelude.{◌≡◌, ◌⊎◌, ◌≤◌, ◌<◌, ◌+◌, ◌-◌, ◌==◌, ℕ, Bool, true, false, not, List, [], ◌∷◌, ◌++◌, length, map, take, drop, All, Contains, IsTrue, MatchBool, cond}
use Rattle.std.proofs.Common.{zero, suc, refl, sym, ap, ◌∙◌, subst, inl, inr, get_or, length-append, arith}
use Rattle.std.proofs.lemmas.List.Sums.{length-filter, count_by-le-length}
use Rattle.std.proofs.lemmas.List.{get_or_default}
use Rattle.std.proofs.lemmas.List.Elements.{Contains-get_or}
use Rattle.std.proofs.lemmas.Bool.Decides.{nat_tests}
use Rattle.std.specs.Cmp.Lexicographic.{pointwise}
use Rattle.std.specs.List.Sorted.{IsStrictlySortedBy}
use Rattle.std.specs.declared.cmp.Ordering.TheVariants.{Less}
use Rattle.px_base.specs.ListLaws.{AllByRecursion-at, All-at, All-each, Contains-cases, Contains-filter, Contains-first, Contains-later}
use Rattle.px_base.specs.SetLaws.{same_set, with_item-members}
use Rattle.px_base.specs.Answers.{both_answers}
use Rattle.px_base.proofs.Loops.{level_or_below}
use Rattle.px_terms.specs.declared.atom.Atom.{Atom}
use Rattle.px_terms.specs.declared.term.Term.{Term}
use Rattle.px_terms.specs.declared.term.Term.TheVariants.{Obj, Var, Any}
use Rattle.px_terms.specs.AtomSets.{IsAtomSet, with_atom}
use Rattle.px_terms.specs.Language.{substitute}
use Rattle.px_terms.specs.Order.{atom_cmp, atom_eq}
use Rattle.px_terms.specs.OrderLaws.{atom_cmp-same, atom_cmp-total, atom_eq-decides, term_eq-decides}
use Rattle.px_ops.specs.Models.{without_atom}
use Rattle.px_ops.specs.ModelValue.{ModelValue}
use Rattle.px_table.specs.declared.mark.Mark.{Mark}
use Rattle.px_table.specs.Kernels.{atom_under}
use Rattle.px_match.specs.Keeping.{AreEmpty, AreKept, AreMatches, ArePutIn, AreTakenOut, HasCapacity, HasPlaces, IsListOf, covers, covers_term, matches}
use Rattle.px_match.proofs.Viewed.{written_whole}
use Rattle.px_match.proofs.Plain.{none_covered}
use Rattle.px_match.proofs.Fewer.{as_many, less_itself, room_put, room_taken, shorter, without_atom-shorter}

-- ---- what is kept so far

-- what comes before an atom of a set stays where it is when the atom is taken
pub before_taken : (atoms : List Atom) (atom : Atom) (at k : ℕ) (d : Atom) → IsAtomSet atoms → at < length atoms → atom ≡ get_or atoms at d
    → k < at → get_or (without_atom atom atoms) k d ≡ get_or atoms k d
unfolding IsStrictlySortedBy
before_taken [] atom at k d set within is below = absurd (omega (arith, within))
before_taken (x ∷ xs) atom zero k d set within is below = absurd (omega (arith, below))
before_taken (x ∷ xs) atom (suc at) k d set within is below =
    let there : Contains xs atom = subst (Contains xs) (sym is) (Contains-get_or xs at d (omega (arith, within))) in
    let less = AllByRecursion-at (λ y. atom_cmp x y ≡ Less) xs atom set.0 there in
    let stays : atom_eq x atom ≡ false =
    apart (atom_eq x atom) (λ same. less_itself atom (subst (λ y. atom_cmp y atom ≡ Less) ((atom_eq-decides x atom).0 same) less)) in
    ap (λ b. get_or (cond (not b) (x ∷ without_atom atom xs) (without_atom atom xs)) k d) stays
    ∙ later k below (λ j low. before_taken xs atom at j d set.1 (omega (arith, within)) is low)
  where
    apart : (b : Bool) → ¬ (b ≡ true) → b ≡ false
    apart true differs = absurd (differs refl)
    apart false differs = refl

    later : (k : ℕ) → k < suc at → ((j : ℕ) → j < at → get_or (without_atom atom xs) j d ≡ get_or xs j d)
        → get_or (x ∷ without_atom atom xs) k d ≡ get_or (x ∷ xs) k d
    later zero below rest = refl
    later (suc k) below rest = rest k (omega (arith, below))

-- the kept atoms before the place are among the new ones
abbrev pub AreFound : List Atom → List Atom → ℕ → Type 0
AreFound new kept at = (k : ℕ) (d : Atom) → k < at → Contains new (get_or kept k d)

-- the place of an atom in a copy of the list
at_kept : (list kept : List Atom) (at : ℕ) (atom : Atom) → list ≡ kept → at < length list → atom ≡ get_or list at atom
    → (at < length kept) × (atom ≡ get_or kept at atom)
at_kept list kept at atom same below is = (subst (λ l. at < length l) same below, is ∙ ap (λ l. get_or l at atom) same)

has_at : (list kept : List Atom) (at : ℕ) (atom : Atom) → list ≡ kept → at < length list → atom ≡ get_or list at atom → Contains kept atom
has_at list kept at atom same below is = let there = at_kept list kept at atom same below is in (at, there.0, sym there.1)

pub met : (list atoms : List Atom) (place : ℕ) (found atom : Atom) → list ≡ atoms → place < length list → found ≡ get_or list place found
    → atom_eq found atom ≡ true → Contains atoms atom
met list atoms place found atom same below is equal =
    subst (Contains atoms) ((atom_eq-decides found atom).0 equal) (has_at list atoms place found same below is)

pub unmet : (b : Bool) (kept : List Atom) (atom : Atom) → (Contains kept atom → IsTrue b) → b ≡ false → ¬ Contains kept atom
unmet b kept atom tells f has = both_answers b f (tells has)

pub found_next : (new kept list : List Atom) (atom : Atom) (at : ℕ) → list ≡ kept → at < length list → atom ≡ get_or list at atom
    → Contains new atom → AreFound new kept at → AreFound new kept (at + 1)
found_next new kept list atom at same below is has found = λ k d low. elim (level_or_below k at low) [
  | inl before ↦ found k d before
  | inr here ↦
      let there = at_kept list kept at atom same below is in
      subst (λ j. Contains new (get_or kept j d)) (sym here) (subst (Contains new) (there.1 ∙ get_or_default kept at atom d there.0) has)
]

pub found_taken : (new kept list after : List Atom) (atom : Atom) (at : ℕ) → IsAtomSet kept → list ≡ kept → at < length list
    → atom ≡ get_or list at atom → after ≡ without_atom atom kept
    → AreFound new kept at → AreFound new after at
found_taken new kept list after atom at set same below is taken found =
    let there = at_kept list kept at atom same below is in
    λ k d low.
    let stays =
    ap (λ l. get_or l k d) taken ∙ before_taken kept atom at k d set there.0 (there.1 ∙ get_or_default kept at atom d there.0) low in
    subst (Contains new) (sym stays) (found k d low)

-- what is left to look at is less
pub left_less : (kept list after : List Atom) (atom : Atom) (at : ℕ) → IsAtomSet kept → list ≡ kept → at < length list
    → atom ≡ get_or list at atom → after ≡ without_atom atom kept
    → length after - at < length kept - at
left_less kept list after atom at set same below is taken =
    let there = at_kept list kept at atom same below is in
    let less = without_atom-shorter atom kept set (has_at list kept at atom same below is) in
    let lengths = ap length taken in
    omega (arith, less, lengths, there.0)

-- ---- the lists when an atom is taken or put

-- what a mark becomes it covers
pub covers-under : (tau : List ℕ) (mark : Atom) → covers mark (atom_under tau mark) ≡ true
covers-under tau mark = rw (itself mark.pred, terms mark.args) refl
  where
    itself : (n : ℕ) → (n == n) ≡ true
    itself n = grind (arith, nat_tests)

    term : (t : Term) → covers_term t (substitute (map Obj tau) t) ≡ true
    term (Obj n) = (term_eq-decides (Obj n) (Obj n)).1 refl
    term (Var v) = refl
    term Any = refl

    terms : (ts : List Term) → pointwise covers_term ts (map (substitute (map Obj tau)) ts) ≡ true
    terms [] = refl
    terms (t ∷ ts) = rw (term t, terms ts) refl

-- so an atom that it becomes is in its list
pub matched : (atoms : List Atom) (tau : List ℕ) (mark : Atom) → Contains atoms (atom_under tau mark)
    → Contains (matches mark atoms) (atom_under tau mark)
matched atoms tau mark has = (Contains-filter (covers mark) atoms (atom_under tau mark)).1 (has, covers-under tau mark)

-- while an atom of the new ones isn't kept, there is a place for it in each list
pub place_left : (new : List Atom) (mark : Atom) (kept : List Atom) (list : ModelValue) (atom : Atom) → IsAtomSet kept
    → All (Contains new) kept → Contains new atom → ¬ Contains kept atom → covers mark atom ≡ true
    → IsListOf (length new) mark kept list → 1 ≤ list.spare
place_left new mark kept list atom set within has hasnt covered is =
    let same = ap length is.same in
    elim is.places [
      | inl places ↦
          let less = shorter kept new atom set (λ q h. All-at (Contains new) kept q within h) has hasnt in
          let few : length (matches mark kept) ≤ length kept = rw length-filter (count_by-le-length (covers mark) kept) in
          omega (arith, less, few, same, places)
      | inr plain ↦ let none = none_covered mark kept atom plain.0 covered hasnt in omega (arith, none, same, plain.1)
    ]

pub kept_left : (new : List Atom) (kept : ModelValue) (atom : Atom) → IsAtomSet kept.atoms → All (Contains new) kept.atoms
    → Contains new atom → ¬ Contains kept.atoms atom → HasCapacity (length new) kept → 1 ≤ kept.spare
kept_left new kept atom set within has hasnt room =
    let less = shorter kept.atoms new atom set (λ q h. All-at (Contains new) kept.atoms q within h) has hasnt in
    omega (arith, less, room)

-- what is kept stays among the new ones
pub within_put : (new kept after : List Atom) (atom : Atom) → Contains new atom → after ≡ with_atom atom kept → All (Contains new) kept
    → All (Contains new) after
within_put new kept after atom has put within =
    All-each (Contains new) after (λ q h. elim (Contains-cases atom kept q
    ((with_item-members atom_cmp atom_cmp-total atom_cmp-same atom kept q).0 (subst (λ l. Contains l q) put h))) [
      | inl same ↦ subst (Contains new) same has
      | inr old ↦ All-at (Contains new) kept q within old
    ])

-- and has what it had, and the atom
pub there_put : (kept after : List Atom) (atom q : Atom) → after ≡ with_atom atom kept → (atom ≡ q) ⊎ Contains kept q → Contains after q
there_put kept after atom q put either =
    subst (λ l. Contains l q) (sym put) ((with_item-members atom_cmp atom_cmp-total atom_cmp-same atom kept q).1
    (elim either [
      | inl same ↦ subst (Contains (atom ∷ kept)) same
          (Contains-first atom kept)
      | inr old ↦ Contains-later atom kept q old
    ]))

-- where all are there and no other, these are the atoms
pub all_kept : (new kept : List Atom) → IsAtomSet new → IsAtomSet kept → All (Contains new) kept
    → ((k : ℕ) (d : Atom) → k < length new → Contains kept (get_or new k d)) → kept ≡ new
all_kept new kept new_set kept_set within all =
    same_set atom_cmp atom_cmp-total atom_cmp-same kept new kept_set new_set (λ q. (
      λ h. All-at (Contains new) kept q within h,
      λ h. subst (Contains kept) h.2 (all h.0 q h.1),
    ))

-- and so where there are as many
pub counted : (new kept : List Atom) → IsAtomSet new → IsAtomSet kept → All (Contains new) kept → length kept ≡ length new → kept ≡ new
counted new kept new_set kept_set within same =
    same_set atom_cmp atom_cmp-total atom_cmp-same kept new kept_set new_set (λ q. (
      λ h. All-at (Contains new) kept q within h,
      λ h. as_many kept new kept_set (λ r there. All-at (Contains new) kept r within there) same q h,
    ))

pub matches_of : (room : ℕ) (marks : List Mark) (kept : ModelValue) (lists : List ModelValue) (atoms : List Atom) → kept.atoms ≡ atoms
    → AreKept room marks kept lists → AreMatches marks atoms lists
matches_of room marks kept lists atoms is are =
    record { same = are.same; each = λ k l m below. (are.each k l m below).same ∙ ap (matches (get_or marks k m).atom) is }

-- ---- what is kept, when an atom is taken or put

pub kept_taken : (room : ℕ) (marks : List Mark) (atom : Atom) (before after : ModelValue) (old new : List ModelValue) (was : Bool)
    → IsAtomSet before.atoms → after.atoms ≡ without_atom atom before.atoms
    → MatchBool was (Contains before.atoms atom) (¬ Contains before.atoms atom) → before.spare ≤ after.spare
    → (IsTrue was → before.spare + 1 ≤ after.spare) → AreTakenOut marks atom old new
    → AreKept room marks before old → AreKept room marks after new
kept_taken room marks atom before after old new was set is there kept won taken are = record {
  places = room_taken room atom before after was set is there kept won are.places;
  same = taken.same ∙ are.same;
  each =
      λ k l m below. subst (λ atoms. IsListOf room (get_or marks k m).atom atoms (get_or new k l)) (sym is)
      ((taken.each k l m below).each room before.atoms set (are.each k l m below));
}

pub kept_put : (room : ℕ) (marks : List Mark) (atom : Atom) (before after : ModelValue) (old new : List ModelValue) → IsAtomSet before.atoms
    → after.atoms ≡ with_atom atom before.atoms
    → ¬ Contains before.atoms atom → before.spare ≤ after.spare + 1 → ArePutIn marks atom old new → AreKept room marks before old
    → AreKept room marks after new
kept_put room marks atom before after old new set is hasnt left put are = record {
  places = room_put room atom before after set is hasnt left are.places;
  same = put.same ∙ are.same;
  each =
      λ k l m below. subst (λ atoms. IsListOf room (get_or marks k m).atom atoms (get_or new k l)) (sym is)
      ((put.each k l m below).each room before.atoms set hasnt (are.each k l m below));
}

-- no atoms are kept at first
pub kept_empty : (room : ℕ) (marks : List Mark) (kept : ModelValue) (lists : List ModelValue) → kept.atoms ≡ [] → room ≤ kept.spare
    → AreEmpty room marks (length marks) lists → AreKept room marks kept lists
kept_empty room marks kept lists none spare are = record {
  places = omega (arith, spare);
  same = are.same;
  each = λ k l m below.
      let there : k < length lists = omega (arith, below, are.same) in
      record { same = are.empty k l there ∙ sym (ap (matches (get_or marks k m).atom) none); places = are.places k l m there };
}

-- room for some is room for fewer
pub kept_fewer : (few room : ℕ) (marks : List Mark) (kept : ModelValue) (lists : List ModelValue) → few ≤ room
    → AreKept room marks kept lists → AreKept few marks kept lists
kept_fewer few room marks kept lists less are = record {
  places = let places = are.places in omega (arith, places, less);
  same = are.same;
  each =
      λ k l m below.
      let one = are.each k l m below in
      record {
        same = one.same;
        places = elim one.places [ inl places ↦ inl (omega (arith, places, less)) | inr plain ↦ inr plain ];
      };
}

-- ---- putting what came

-- the new atoms before the place are kept, and no other ones; the lists are those of the kept atoms
pub record IsComing (new : List Atom) (marks : List Mark) (first : ModelValue) (first_lists : List ModelValue) (at : ℕ) (kept : ModelValue)
    (lists : List ModelValue) : Type 0 where
  pub same : length lists ≡ length marks
  pub set : IsAtomSet kept.atoms
  pub within : All (Contains new) kept.atoms
  pub there : (k : ℕ) (d : Atom) → k < at → Contains kept.atoms (get_or new k d)
  pub keeps : (room : ℕ) → AreKept room marks first first_lists → AreKept room marks kept lists

module _ (new : List Atom) (marks : List Mark) (first : ModelValue) (first_lists : List ModelValue) (at : ℕ) (kept : ModelValue)
    (lists : List ModelValue)
    (coming : IsComing new marks first first_lists at kept lists) (list : List Atom) (atom : Atom) (same : list ≡ new)
    (below : at < length list) (is : atom ≡ get_or list at atom) where
  put_there : (after : List Atom) → ((q : Atom) → (atom ≡ q) ⊎ Contains kept.atoms q → Contains after q) → (k : ℕ) (d : Atom) → k < at + 1
      → Contains after (get_or new k d)
  put_there after has k d low = elim (level_or_below k at low) [
    | inl before ↦ has (get_or new k d) (inr (coming.there k d before))
    | inr here ↦
        let there = at_kept list new at atom same below is in
        has (get_or new k d) (inl (there.1 ∙ get_or_default new at atom d there.0 ∙ ap (λ j. get_or new j d) (sym here)))
  ]

  pub coming_stays : Contains kept.atoms atom → IsComing new marks first first_lists (at + 1) kept lists
  coming_stays has = record {
    same = coming.same;
    set = coming.set;
    within = coming.within;
    there = put_there kept.atoms (λ q either. elim either [ inl one ↦ subst (Contains kept.atoms) one has | inr old ↦ old ]);
    keeps = coming.keeps;
  }

  module _ (hasnt : ¬ Contains kept.atoms atom) (room : AreKept (length new) marks first first_lists) where
    pub room_for_it : 1 ≤ kept.spare
    room_for_it =
        kept_left new kept atom coming.set coming.within (has_at list new at atom same below is) hasnt
        (coming.keeps (length new) room).places

    pub rooms_for_it : (k : ℕ) (l : ModelValue) (m : Mark) → k < length lists → covers (get_or marks k m).atom atom ≡ true
        → 1 ≤ (get_or lists k l).spare
    rooms_for_it k l m within covered =
        place_left new (get_or marks k m).atom kept.atoms (get_or lists k l) atom coming.set coming.within
        (has_at list new at atom same below is) hasnt covered
        ((coming.keeps (length new) room).each k l m (omega (arith, within, coming.same)))

  pub coming_put : (after : ModelValue) (after_lists : List ModelValue) → ¬ Contains kept.atoms atom
      → after.atoms ≡ with_atom atom kept.atoms → IsAtomSet after.atoms → kept.spare ≤ after.spare + 1
      → ArePutIn marks atom lists after_lists → IsComing new marks first first_lists (at + 1) after after_lists
  coming_put after after_lists hasnt put set left lists_put = record {
    same = lists_put.same ∙ coming.same;
    set = set;
    within = within_put new kept.atoms after.atoms atom (has_at list new at atom same below is) put coming.within;
    there = put_there after.atoms (λ q either. there_put kept.atoms after.atoms atom q put either);
    keeps = λ room are. kept_put room marks atom kept after lists after_lists coming.set put hasnt left lists_put (coming.keeps room are);
  }

pub all_came : (new : List Atom) (marks : List Mark) (first : ModelValue) (first_lists : List ModelValue) (at : ℕ) (kept : ModelValue)
    (lists : List ModelValue) (list : List Atom)
    → IsComing new marks first first_lists at kept lists → IsAtomSet new → list ≡ new → length list ≤ at → kept.atoms ≡ new
all_came new marks first first_lists at kept lists list coming new_set same end =
    let lengths = ap length same in
    all_kept new kept.atoms new_set coming.set coming.within (λ k d below. coming.there k d (omega (arith, below, lengths, end)))

-- the list of a mark has what it covers
pub list_matches : (marks : List Mark) (atoms : List Atom) (lists : List ModelValue) (at : ℕ) (mark : Mark) (list : ModelValue)
    (found : List Atom) → AreMatches marks atoms lists → at < length marks → mark ≡ get_or marks at mark → list ≡ get_or lists at list
    → found ≡ list.atoms → found ≡ matches mark.atom atoms
list_matches marks atoms lists at mark list found are below mark_is list_is found_is =
    found_is ∙ ap (λ (x : ModelValue). x.atoms) list_is ∙ are.each at list mark below
    ∙ ap (λ (m : Mark). matches m.atom atoms) (sym mark_is)

-- and so what it becomes
pub listed : (marks : List Mark) (atoms : List Atom) (lists : List ModelValue) (at : ℕ) (mark : Mark) (list : ModelValue)
    (found : List Atom) (tau : List ℕ) → AreMatches marks atoms lists
    → at < length marks → mark ≡ get_or marks at mark → list ≡ get_or lists at list → found ≡ list.atoms
    → Contains atoms (atom_under tau mark.atom) → Contains found (atom_under tau mark.atom)
listed marks atoms lists at mark list found tau are below mark_is list_is found_is has =
    let same = list_matches marks atoms lists at mark list found are below mark_is list_is found_is in
    subst (λ l. Contains l (atom_under tau mark.atom)) (sym same) (matched atoms tau mark.atom has)

-- what is in the list of a mark is among the atoms
pub from_list : (marks : List Mark) (atoms : List Atom) (lists : List ModelValue) (at : ℕ) (mark : Mark) (list : ModelValue) (atom : Atom)
    → AreMatches marks atoms lists
    → at < length marks → list ≡ get_or lists at list → Contains list.atoms atom → Contains atoms atom
from_list marks atoms lists at mark list atom are below list_is has =
    let same = ap (λ (x : ModelValue). x.atoms) list_is ∙ are.each at list mark below in
    ((Contains-filter (covers (get_or marks at mark).atom) atoms atom).0 (subst (λ l. Contains l atom) same has)).0

-- ---- lists without atoms

pub none_empty : (room : ℕ) (marks : List Mark) → AreEmpty room marks 0 []
none_empty room marks =
    record { same = refl; empty = λ k l below. absurd (omega (arith, below)); places = λ k l m below. absurd (omega (arith, below)) }

last_or_before : (P : ℕ → ModelValue → Type 0) (lists : List ModelValue) (one : ModelValue)
    → ((k : ℕ) (l : ModelValue) → k < length lists → P k (get_or lists k l)) → P (length lists) one
    → (k : ℕ) (l : ModelValue) → k < length (lists ++ one ∷ []) → P k (get_or (lists ++ one ∷ []) k l)
last_or_before P [] one all is zero l below = is
last_or_before P [] one all is (suc k) l below = absurd (omega (arith, below))
last_or_before P (x ∷ xs) one all is zero l below = all 0 l (omega arith)
last_or_before P (x ∷ xs) one all is (suc k) l below =
    last_or_before (λ j. P (suc j)) xs one (λ j d low. all (suc j) d (omega (arith, low))) is k l (omega (arith, below))

pub one_more_empty : (room : ℕ) (marks : List Mark) (count : ℕ) (lists : List ModelValue) (mark : Mark) (one : ModelValue)
    → count < length marks → mark ≡ get_or marks count mark → AreEmpty room marks count lists → one.atoms ≡ []
    → HasPlaces room mark.atom one → AreEmpty room marks (count + 1) (lists ++ one ∷ [])
one_more_empty room marks count lists mark one below is are none places = record {
  same = let lengths = length-append lists (one ∷ []) in let same = are.same in omega (arith, lengths, same);
  empty = last_or_before (λ _ (list : ModelValue). list.atoms ≡ []) lists one are.empty none;
  places = λ k l m.
      let here = is ∙ get_or_default marks count mark m below ∙ ap (λ n. get_or marks n m) (sym are.same) in
      last_or_before (λ j list. HasPlaces room (get_or marks j m).atom list) lists one (λ j d low. are.places j d m low)
      (subst (λ (x : Mark). HasPlaces room x.atom one) here places) k l;
}

-- ---- borrowed lists

pub kept_lent : (few room : ℕ) (marks given : List Mark) (kept : ModelValue) (lists lent : List ModelValue) → few ≤ room → given ≡ marks
    → lent ≡ lists → AreKept room marks kept lists → AreKept few given kept lent
kept_lent few room marks given kept lists lent less marks_are lists_are are =
    subst (λ g. AreKept few g kept lent) (sym marks_are)
    (subst (AreKept few marks kept) (sym lists_are) (kept_fewer few room marks kept lists less are))

pub matches_back : (marks given : List Mark) (atoms : List Atom) (lists old found : List ModelValue) (n : ℕ) → given ≡ marks
    → length lists ≡ length old → n ≡ length lists
    → found ≡ take n (lists ++ drop (length lists) old) → AreMatches given atoms lists → AreMatches marks atoms found
matches_back marks given atoms lists old found n marks_are lengths all found_is are =
    subst (AreMatches marks atoms) (sym (found_is ∙ written_whole n lists old lengths all))
    (subst (λ g. AreMatches g atoms lists) marks_are are)

pub kept_back : (room : ℕ) (marks given : List Mark) (before kept : ModelValue) (lent old lists : List ModelValue) (n : ℕ) → given ≡ marks
    → lent ≡ old → length lists ≡ length old → n ≡ length lists
    → ((r : ℕ) → AreKept r given before lent → AreKept r given kept lists) → AreKept room marks before old
    → AreKept room marks kept (take n (lists ++ drop (length lists) old))
kept_back room marks given before kept lent old lists n marks_are lists_are lengths all keeps are =
    subst (AreKept room marks kept) (sym (written_whole n lists old lengths all))
    (subst (λ g. AreKept room g kept lists) marks_are
    (keeps room (kept_lent room room marks given before old lent (omega arith) marks_are lists_are are)))
