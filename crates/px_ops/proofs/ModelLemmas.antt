-- What inserting or removing at the place of an atom makes of a model.
use Rattle.std.proofs.Common.{is_lt, ◌≡◌, ◌+◌, ◌-◌, ◌<◌, ◌≤◌, ℕ, min, suc, Bool, true, false, List, [], ◌∷◌, ◌++◌, length, take, drop, get_or, refl, sym, ap, ◌∙◌, subst, inl, inr, arith, add-one, append_assoc, append-nil, add-zero, get_or-drop, length-append, length-drop, length-take}
use Rattle.std.specs.Prelude.{not, filter, All, Contains, cond, is_ok, Result, Ok, Err}
use Rattle.std.proofs.Math.Seq.{drop-cons, take-suc}
use Rattle.std.proofs.lemmas.List.{get_or_default, take-append-drop}
use Rattle.std.proofs.lemmas.List.Elements.{All-contains_itself, All-cons, Contains-append_cases, filter-append}
use Rattle.std.proofs.lemmas.List.Sums.{length-filter, count_by-le-length}
use Rattle.std.proofs.lemmas.List.Filters.{FiltersInPlace}
use Rattle.std.proofs.lemmas.List.Kept.{IsStrictlySortedBy-filter}
use Rattle.std.specs.Bool.{Decides}
use Rattle.std.specs.Cmp.{tied_itself}
use Rattle.std.specs.List.{insert, remove}
use Rattle.std.specs.List.Sorted.{IsStrictlySortedBy, IsBinarySearchResult, IsSearchInRange}
use Rattle.std.specs.Ordering.{is_eq, ordering_reverse}
use Rattle.std.specs.declared.cmp.Ordering.{Ordering}
use Rattle.std.specs.declared.cmp.Ordering.TheVariants.{Less, Equal, Greater}
use Rattle.px_base.specs.Bounds.{u32_max}
use Rattle.px_terms.specs.declared.atom.Atom.{Atom}
use Rattle.px_terms.specs.Instances.{IsGround}
use Rattle.px_base.specs.ListLaws.{Contains-filter}
use Rattle.px_terms.specs.Order.{atom_cmp, atom_eq}
use Rattle.px_terms.specs.OrderLaws.{atom_cmp-total, atom_cmp-same, atom_cmp-matches_eq, atom_eq-decides}
use Rattle.px_terms.specs.AtomSets.{IsAtomSet, with_atom, atom_set}
use Rattle.px_base.specs.ListLaws.{Contains-later, Contains-cases, AllByRecursion-at, AllByRecursion-map}
use Rattle.px_base.specs.SetLaws.{with_item-sorted, with_item-members, same_set, set_of-sorted, set_of-push}
use Rattle.px_ops.specs.Models.{IsModel, IsPlace, Parts, without_atom}
use Rattle.px_base.proofs.Loops.{level_or_below}
use Rattle.px_ops.proofs.PlaceLemmas.{prefix_of, back_of, filter_all, around, rising, sorted_pair, with_item-between}

-- what a binary search answers is the place
pub searched_place : (atoms : List Atom) (atom : Atom) (r : Result ℕ ℕ) → IsAtomSet atoms → IsSearchInRange r (length atoms)
    → IsBinarySearchResult (λ y. atom_cmp y atom) atoms r → IsPlace atoms atom r
searched_place atoms atom (Ok i) sorted below found =
    let is : get_or atoms i atom ≡ atom = atom_cmp-same _ _ (found atom) in
    let parts = around atom_cmp atom_cmp-total atoms atom i sorted below is in
    (below, is, record { below = parts.0; above = parts.1 })
searched_place atoms atom (Err i) sorted below found =
    let parts = found (rising atom_cmp atom_cmp-total atoms atom sorted) in (
      below,
      record {
        below = prefix_of _ atoms i below parts.0;
        above =
            back_of _ atoms i (λ k d low high. atom_cmp-total.antisymm atom (get_or atoms k d)
            ∙ ap ordering_reverse (parts.1 k d low high));
      },
    )

pub less_is : (r : Ordering) → is_lt r ≡ true → r ≡ Less
less_is Less is = refl
less_is Equal is = cc
less_is Greater is = cc

-- an atom above the last one comes after all
pub last_place : (atoms : List Atom) (atom default : Atom) → IsAtomSet atoms → 0 < length atoms
    → atom_cmp (get_or atoms (length atoms - 1) default) atom ≡ Less → IsPlace atoms atom (Err (length atoms))
last_place atoms atom default sorted some above =
    let last = length atoms - 1 in
    let within : last < length atoms = omega (arith, some) in
    let last_below : (d : Atom) → atom_cmp (get_or atoms last d) atom ≡ Less =
    λ d. subst (λ (a : Atom). atom_cmp a atom ≡ Less) (get_or_default atoms last default d within) above in (
      omega arith,
      record {
        below = prefix_of _ atoms (length atoms) (omega arith) (λ k d low high. elim (level_or_below k last (omega (arith, high, some))) [
          | inl before ↦ atom_cmp-total.trans _ _ atom (sorted_pair atom_cmp atom_cmp-total atoms k last d sorted before within)
              (last_below d)
          | inr level ↦ rw level (last_below d)
        ]);
        above = back_of _ atoms (length atoms) (λ k d low high. absurd (omega (arith, low, high)));
      },
    )

-- a fact of all atoms of a list holds of the atoms of any list whose atoms are there
pub All-members : {X : Type 0} (P : X → Type 0) (xs ys : List X) → All P xs → ((q : X) → Contains ys q → Contains xs q) → All P ys
All-members P xs ys all there k d below =
    let one = there (get_or ys k d) (All-contains_itself ys k d below) in
    subst P one.2 (all one.0 (get_or ys k d) one.1)

unlike : {G : Type 0} → ◌≡◌ {A = Ordering} Less Equal → G
unlike e = cc

-- no atom is among those below it or above it
parts_without : (atom : Atom) (before after : List Atom) → Parts atom before after → ¬ Contains (before ++ after) atom
parts_without atom before after parts h =
    elim (Contains-append_cases before after atom h) [
      | inl left ↦ unlike (sym (AllByRecursion-at _ before atom parts.below left) ∙ tied_itself atom_cmp-total atom)
      | inr right ↦ unlike (sym (AllByRecursion-at _ after atom parts.above right) ∙ tied_itself atom_cmp-total atom)
    ]

pub missing : (atoms : List Atom) (atom : Atom) (i : ℕ) → IsPlace atoms atom (Err i) → ¬ Contains atoms atom
missing atoms atom i place h = parts_without atom (take i atoms) (drop i atoms) place.1 (rw (take-append-drop i atoms) h)

pub found_there : (atoms : List Atom) (atom : Atom) (i : ℕ) → IsPlace atoms atom (Ok i) → Contains atoms atom
found_there atoms atom i place = (i, place.0, place.1)

-- a set that has the atom stays as it is
pub with_atom-there : (atoms : List Atom) (atom : Atom) → IsAtomSet atoms → Contains atoms atom → atoms ≡ with_atom atom atoms
with_atom-there atoms atom sorted there =
    same_set atom_cmp atom_cmp-total atom_cmp-same atoms (with_atom atom atoms) sorted
    (with_item-sorted atom_cmp atom_cmp-total atom_cmp-same atom atoms sorted)
    (λ q.
    let members = with_item-members atom_cmp atom_cmp-total atom_cmp-same atom atoms q in (
      λ h. members.1 (Contains-later atom atoms q h),
      λ h. elim (Contains-cases atom atoms q (members.0 h)) [ inl is ↦ subst (Contains atoms) is there | inr later ↦ later ],
    ))

pub insert-place : (atoms : List Atom) (atom : Atom) (i : ℕ) → IsPlace atoms atom (Err i) → insert atoms i atom ≡ with_atom atom atoms
insert-place atoms atom i place =
    sym (with_item-between atom_cmp atom_cmp-total atom (take i atoms) (drop i atoms) place.1.below place.1.above)
    ∙ ap (with_atom atom) (take-append-drop i atoms)

pub with_atom-model : (atoms : List Atom) (atom : Atom) → IsModel atoms → IsGround atom → length (with_atom atom atoms) ≤ u32_max
    → IsModel (with_atom atom atoms)
with_atom-model atoms atom model is_ground short =
    record {
      ascending = with_item-sorted atom_cmp atom_cmp-total atom_cmp-same atom atoms model.ascending;
      all_ground = All-members IsGround (atom ∷ atoms) (with_atom atom atoms) (All-cons IsGround atom atoms is_ground model.all_ground)
          (λ q h. (with_item-members atom_cmp atom_cmp-total atom_cmp-same atom atoms q).0 h);
      short = short;
    }

other_than : (atom other : Atom) → atom_cmp other atom ≡ Less → not (atom_eq other atom) ≡ true
other_than atom other below = ap not (atom_cmp-matches_eq other atom ∙ ap is_eq below)

other_than_above : (atom other : Atom) → atom_cmp atom other ≡ Less → not (atom_eq other atom) ≡ true
other_than_above atom other above =
    ap not (atom_cmp-matches_eq other atom ∙ ap is_eq (atom_cmp-total.antisymm other atom ∙ ap ordering_reverse above))

-- removing an atom keeps the atoms below it and above it
parts_kept : (atom : Atom) (before after : List Atom) → Parts atom before after → without_atom atom (before ++ after) ≡ before ++ after
parts_kept atom before after parts =
    rw (
      filter-append,
      filter_all _ before (AllByRecursion-map _ _ (other_than atom) before parts.below),
      filter_all _ after (AllByRecursion-map _ _ (other_than_above atom) after parts.above),
    )

pub without-missing : (atoms : List Atom) (atom : Atom) (i : ℕ) → IsPlace atoms atom (Err i) → atoms ≡ without_atom atom atoms
without-missing atoms atom i place =
    sym (subst (λ l. without_atom atom l ≡ l) (take-append-drop i atoms) (parts_kept atom (take i atoms) (drop i atoms) place.1))

itself_removed : (atom : Atom) (atoms : List Atom) → without_atom atom (atom ∷ atoms) ≡ without_atom atom atoms
itself_removed atom atoms = rw ((atom_eq-decides atom atom).1 refl)

pub remove-place : (atoms : List Atom) (atom : Atom) (i : ℕ) → IsPlace atoms atom (Ok i) → remove atoms i ≡ without_atom atom atoms
remove-place atoms atom i place =
    let before = take i atoms in
    let after = drop (suc i) atoms in
    let parts : Parts atom before after = rw (add-one i) at place.2 in
    let whole : atoms ≡ before ++ atom ∷ after =
    sym (take-append-drop i atoms) ∙ ap (λ l. before ++ l) (drop-cons atoms i atom place.0 ∙ ap (λ a. a ∷ after) place.1) in
    sym (ap (without_atom atom) whole
    ∙ filter-append _ before (atom ∷ after)
    ∙ ap (λ l. without_atom atom before ++ l) (itself_removed atom after)
    ∙ sym (filter-append _ before after)
    ∙ parts_kept atom before after parts)

shorter : (p : Atom → Bool) (atoms : List Atom) (n : ℕ) → length atoms ≤ n → length (filter p atoms) ≤ n
shorter p atoms n h = rw length-filter (omega (arith, count_by-le-length p atoms))

pub filtered_model : (p : Atom → Bool) (atoms : List Atom) → IsModel atoms → IsModel (filter p atoms)
filtered_model p atoms model =
    record {
      ascending = IsStrictlySortedBy-filter atom_cmp p atoms model.ascending;
      all_ground = All-members IsGround atoms (filter p atoms) model.all_ground (λ q h. ((Contains-filter p atoms q).0 h).0);
      short = shorter p atoms u32_max model.short;
    }

pub without_atom-model : (atoms : List Atom) (atom : Atom) → IsModel atoms → IsModel (without_atom atom atoms)
without_atom-model atoms atom = filtered_model (λ other. not (atom_eq other atom)) atoms

pub empty_model : IsModel []
unfolding IsStrictlySortedBy
empty_model = record { ascending = tt; all_ground = λ k d below. absurd (omega (arith, below)); short = omega arith }

-- the answer of a place says whether the set has the atom
pub place-decides : (atoms : List Atom) (atom : Atom) (r : Result ℕ ℕ) → IsPlace atoms atom r → Decides (is_ok r) (Contains atoms atom)
place-decides atoms atom (Ok i) place = (λ _. found_there atoms atom i place, λ _. refl)
place-decides atoms atom (Err i) place = (λ h. cc, λ h. absurd (missing atoms atom i place h))

-- an insertion at the place
pub inserted : (old new : List Atom) (atom : Atom) (i : ℕ) (ok : Bool) → IsPlace old atom (Err i) → new ≡ cond ok (insert old i atom) old
    → ok ≡ true → new ≡ with_atom atom old
inserted old new atom i ok place is done = is ∙ ap (λ b. cond b (insert old i atom) old) done ∙ insert-place old atom i place

inserted_model : (old new : List Atom) (atom : Atom) (i : ℕ) (ok : Bool) → IsPlace old atom (Err i) → new ≡ cond ok (insert old i atom) old
    → IsModel old → IsGround atom → length new ≤ u32_max → IsModel new
inserted_model old new atom i ok place is model is_ground short =
    elim ok as (λ b. new ≡ cond b (insert old i atom) old → IsModel new) [
      | true ↦ λ e.
          let whole = e ∙ insert-place old atom i place in
          rw whole (with_atom-model old atom model is_ground (rw (← whole) short))
      | false ↦ λ e. rw e model
    ] is

inserted_short : (old new : List Atom) (atom : Atom) (i : ℕ) (ok : Bool) → new ≡ cond ok (insert old i atom) old → length old < u32_max
    → length new ≤ u32_max
inserted_short old new atom i ok is short =
    elim ok as (λ b. new ≡ cond b (insert old i atom) old → length new ≤ u32_max) [
      | true ↦ λ e. rw e (simp (length-append, length-take, length-drop) (omega arith))
      | false ↦ λ e. rw e (omega arith)
    ] is

-- a model stays one when an atom is put at its place, where there is room
pub put_model : (old new : List Atom) (atom : Atom) (i capacity : ℕ) (ok : Bool) → IsPlace old atom (Err i)
    → new ≡ cond ok (insert old i atom) old → IsModel old → IsGround atom
    → 1 ≤ min capacity u32_max - length old → IsModel new
put_model old new atom i capacity ok place is model is_ground room =
    inserted_model old new atom i ok place is model is_ground (inserted_short old new atom i ok is (omega (arith, room)))

-- and when an atom is taken from its place
pub removed_model : (old new : List Atom) (atom : Atom) (i : ℕ) → IsPlace old atom (Ok i) → new ≡ remove old i → IsModel old → IsModel new
removed_model old new atom i place whole model = rw (whole, remove-place old atom i place) (without_atom-model old atom model)

pub set_itself : (atoms : List Atom) → IsAtomSet atoms → atoms ≡ atom_set (atoms ++ [])
set_itself atoms sorted = rw append-nil (sym (set_of-sorted atom_cmp atoms sorted))

-- one more insertion of a list that is inserted in order
pub next_added : (old added : List Atom) (k : ℕ) (atom : Atom) (before after : List Atom) → k < length added → atom ≡ get_or added k atom
    → before ≡ atom_set (old ++ take k added) → after ≡ with_atom atom before → after ≡ atom_set (old ++ take (k + 1) added)
next_added old added k atom before after below is was put =
    put ∙ ap (with_atom atom) was
    ∙ set_of-push atom_cmp atom_cmp-total atom_cmp-same (old ++ take k added) atom
    ∙ ap atom_set (append_assoc old (take k added) (atom ∷ [])
    ∙ ap (λ l. old ++ l) (ap (λ a. take k added ++ a ∷ []) is ∙ sym (take-suc added k atom below)
    ∙ ap (λ n. take n added) (sym (add-one k))))

-- a filter in place has yet to move what it has not reached
pub kept_rest : (p : Atom → Bool) (xs ys : List Atom) (k i : ℕ) (d : Atom) → FiltersInPlace p xs ys k i → i < length xs
    → get_or ys i d ≡ get_or xs i d
kept_rest p xs ys k i d filtered below =
    sym (rw add-zero at (get_or-drop i ys 0 d)) ∙ ap (λ l. get_or l 0 d) filtered.rest ∙ rw add-zero at (get_or-drop i xs 0 d)
