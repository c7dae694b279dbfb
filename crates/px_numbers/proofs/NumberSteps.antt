-- One more thing is kept.
use Rattle.std.proofs.Common.{◌≡◌, ◌↔◌, ℕ, zero, suc, ◌+◌, ◌-◌, ◌<◌, ◌≤◌, List, [], ◌∷◌, ◌++◌, length, take, get_or, refl, sym, ◌∙◌, ap, subst, inl, inr, arith, Some, slice_get, Contains}
use Rattle.std.specs.Prelude.{None, Result, Ok, Err, IfOk, OnErr}
use Rattle.px_base.specs.ListLaws.{Contains-none, Contains-first, Contains-later, Contains-cases}
use Rattle.px_base.specs.Sets.{set_of}
use Rattle.px_base.specs.SetLaws.{set_of-push, set_of-sorted}
use Rattle.px_terms.specs.AtomSets.{atom_set, with_atom}
use Rattle.px_terms.specs.declared.atom.Atom.{Atom}
use Rattle.px_terms.specs.Order.{atom_cmp}
use Rattle.px_terms.specs.OrderLaws.{atom_cmp-total, atom_cmp-same}
use Rattle.px_table.specs.declared.entry.Entry.{Entry}
use Rattle.px_numbers.specs.declared.stacks.Frame.{Frame}
use Rattle.px_ops.specs.Keeping.{AreOnce, Keeps, KeepsPlaces}
use Rattle.px_numbers.specs.Numbers.{Kept, AreEachOnce, AreDescending, AreNumbersOf, IsModelOf, IsStackAt, IsTopOf}
use Rattle.px_numbers.specs.NumberLaws.{one_at, numbers-grow}
use Rattle.px_ops.specs.KeepLaws.{keeps-places, keeps-once, push-cases, place_within}

pub keeps_same : {X : Type 0} (xs : List X) → KeepsPlaces xs xs
keeps_same xs k x e = e

pub keeps_both : {X : Type 0} (xs ys zs : List X) → KeepsPlaces xs ys → KeepsPlaces ys zs → KeepsPlaces xs zs
keeps_both xs ys zs f g k x e = g k x (f k x e)

module _ {X E : Type 0} (old new : List X) (item : X) where
  pub result_places : (result : Result ℕ E) → IfOk result (Keeps old new item) → OnErr result (new ≡ old) → KeepsPlaces old new
  result_places (Ok number) kept same = keeps-places old new item number kept
  result_places (Err e) kept same = subst (KeepsPlaces old) (sym same) (keeps_same old)

  pub result_once : (result : Result ℕ E) → IfOk result (Keeps old new item) → OnErr result (new ≡ old) → AreOnce old → AreOnce new
  result_once (Ok number) kept same once = keeps-once old new item number kept once
  result_once (Err e) kept same once = subst AreOnce (sym same) once

-- ---- the numbers of a list of atoms

pub numbers_push : (index : List Atom) (numbers : List ℕ) (atoms : List Atom) (atom : Atom) (number : ℕ)
    → slice_get index number ≡ Some atom → AreNumbersOf index numbers atoms
    → AreNumbersOf index (numbers ++ number ∷ []) (atoms ++ atom ∷ [])
numbers_push index [] [] atom number at are = (at, tt)
numbers_push index [] (x ∷ xs) atom number at are = absurd are
numbers_push index (n ∷ ns) [] atom number at are = absurd are
numbers_push index (n ∷ ns) (x ∷ xs) atom number at are = (are.0, numbers_push index ns xs atom number at are.1)

pub numbers_more : (old new : List Atom) (numbers : List ℕ) (atoms : List Atom) (atom : Atom) (number : ℕ) → Keeps old new atom number
    → AreNumbersOf old numbers atoms
    → AreNumbersOf new (numbers ++ number ∷ []) (atoms ++ atom ∷ [])
numbers_more old new numbers atoms atom number kept are =
    numbers_push new numbers atoms atom number kept.here (numbers-grow old new numbers atoms (keeps-places old new atom number kept) are)

-- each number is that of an atom
pub number_within : (index : List Atom) (numbers : List ℕ) (model : List Atom) (i : ℕ) → AreNumbersOf index numbers model
    → i < length numbers → get_or numbers i 0 < length index
number_within index [] model i are below = absurd (omega (arith, below))
number_within index (n ∷ ns) [] i are below = absurd are
number_within index (n ∷ ns) (x ∷ xs) zero are below = place_within index n x are.0
number_within index (n ∷ ns) (x ∷ xs) (suc i) are below = number_within index ns xs i are.1 (omega (arith, below))

-- the atom of the next number is the next atom
pub next_atom : (index : List Atom) (numbers : List ℕ) (model : List Atom) (i : ℕ) (atom : Atom) → AreNumbersOf index numbers model
    → i < length numbers → slice_get index (get_or numbers i 0) ≡ Some atom
    → take i model ++ atom ∷ [] ≡ take (suc i) model
next_atom index [] model i atom are below at = absurd (omega (arith, below))
next_atom index (n ∷ ns) [] i atom are below at = absurd are
next_atom index (n ∷ ns) (x ∷ xs) zero atom are below at = ap (λ (a : Atom). a ∷ []) (one_at index n atom x at are.0)
next_atom index (n ∷ ns) (x ∷ xs) (suc i) atom are below at =
    ap (λ (l : List Atom). x ∷ l) (next_atom index ns xs i atom are.1 (omega (arith, below)) at)

-- there are as many atoms as numbers
pub all_atoms : (index : List Atom) (numbers : List ℕ) (model : List Atom) (count : ℕ) → AreNumbersOf index numbers model
    → length numbers ≤ count → take count model ≡ model
all_atoms index [] [] zero are enough = refl
all_atoms index [] [] (suc count) are enough = refl
all_atoms index [] (x ∷ xs) count are enough = absurd are
all_atoms index (n ∷ ns) [] count are enough = absurd are
all_atoms index (n ∷ ns) (x ∷ xs) zero are enough = absurd (omega (arith, enough))
all_atoms index (n ∷ ns) (x ∷ xs) (suc count) are enough =
    ap (λ (l : List Atom). x ∷ l) (all_atoms index ns xs count are.1 (omega (arith, enough)))

-- ---- making a model of its numbers

-- what is built is the set of the first atoms of the model, as many as there are numbers
abbrev pub IsBuilt : List Atom → List ℕ → ℕ → List Atom → Type 0
IsBuilt index numbers count built = (model : List Atom) → IsModelOf index numbers model → built ≡ atom_set (take count model)

pub built_none : (index : List Atom) (numbers : List ℕ) (built : List Atom) → built ≡ [] → IsBuilt index numbers 0 built
unfolding set_of
built_none index numbers built none model is = none

pub built_more : (index : List Atom) (numbers : List ℕ) (i : ℕ) (old new : List Atom) (atom : Atom) → i < length numbers
    → slice_get index (get_or numbers i 0) ≡ Some atom → new ≡ with_atom atom old
    → IsBuilt index numbers i old → IsBuilt index numbers (i + 1) new
built_more index numbers i old new atom below at put built model is =
    let more : suc i ≡ i + 1 = omega arith in
    put ∙ ap (with_atom atom) (built model is) ∙ set_of-push atom_cmp atom_cmp-total (λ x y. atom_cmp-same x y) (take i model) atom
    ∙ ap atom_set (next_atom index numbers model i atom is.numbers_are below at ∙ ap (λ (n : ℕ). take n model) more)

pub built_all : (index : List Atom) (numbers : List ℕ) (count : ℕ) (built model : List Atom) → length numbers ≤ count
    → IsBuilt index numbers count built → IsModelOf index numbers model
    → IsModelOf index numbers built
built_all index numbers count built model enough all is =
    subst (IsModelOf index numbers) (sym (all model is ∙ ap atom_set (all_atoms index numbers model count is.numbers_are enough)
    ∙ set_of-sorted atom_cmp model is.is_set)) is

-- ---- frames

pub descending_more : (old new : List Frame) (frame : Frame) (number : ℕ) → Keeps old new frame number → frame.below ≤ length old
    → AreDescending old → AreDescending new
descending_more old new frame number kept below descends = elim kept.change [
  | inl same ↦ subst AreDescending (sym same.1) descends
  | inr more ↦ subst AreDescending (sym more.1) pushed
]
  where
    pushed : AreDescending (old ++ frame ∷ [])
    pushed k other at = elim (push-cases old frame other k at) [
      | inl before ↦ descends k other before
      | inr last ↦ subst (λ (f : Frame). f.below ≤ k) last.1 (omega (arith, below, last.0))
    ]

-- the number of a stack is at most how many frames there are
pub stack_within : (kept : Kept) (number : ℕ) (stack : List Entry) → IsStackAt kept number stack → number ≤ length kept.frames
stack_within kept number [] is = omega (arith, is)
stack_within kept number (entry ∷ below) is = omega (arith, is.2, place_within kept.frames is.0 is.1 is.3)

-- a number other than 0 is that of a frame
pub stack_split : (kept : Kept) (number : ℕ) (stack : List Entry) → IsStackAt kept number stack → (¬ (number ≡ 0))
    → number - 1 < length kept.frames
stack_split kept number stack is other = omega (arith, stack_within kept number stack is, other)

pub top_none : (kept : Kept) (number : ℕ) (stack : List Entry) → number ≡ 0 → IsStackAt kept number stack → IsTopOf kept stack None
top_none kept number [] none is = tt
top_none kept number (entry ∷ below) none is = omega (arith, none, is.2)

pub top_some : (kept : Kept) (number : ℕ) (stack : List Entry) (frame : Frame) → (¬ (number ≡ 0))
    → slice_get kept.frames (number - 1) ≡ Some frame → IsStackAt kept number stack → IsTopOf kept stack (Some frame)
top_some kept number [] frame other at is = other is
top_some kept number (entry ∷ below) frame other at (place, found, number_is, frame_at, entry_at, rest) =
    let same_place : number - 1 ≡ place = omega (arith, number_is) in
    let same : found ≡ frame =
    one_at kept.frames place found frame frame_at (subst (λ (k : ℕ). slice_get kept.frames k ≡ Some frame) same_place at) in (
      subst (λ (f : Frame). slice_get kept.entries f.entry ≡ Some entry) same entry_at,
      subst (λ (f : Frame). IsStackAt kept f.below below) same rest,
    )

-- ---- looking for an entry on a stack

-- the entries are on the stack exactly where they are in what is left of it
abbrev pub IsLookedFor : Kept → ℕ → ℕ → ℕ → Type 0
IsLookedFor kept stack entry rest =
    (entries : List Entry) (one : Entry) → IsStackAt kept stack entries → slice_get kept.entries entry ≡ Some one
    → (left : List Entry) × IsStackAt kept rest left × (Contains entries one ↔ Contains left one)

pub look_on : (kept : Kept) → AreEachOnce kept → (stack entry rest : ℕ) (frame : Frame) → IsLookedFor kept stack entry rest → (¬ (rest ≡ 0))
    → slice_get kept.frames (rest - 1) ≡ Some frame
    → (¬ (frame.entry ≡ entry)) → IsLookedFor kept stack entry frame.below
look_on kept once stack entry rest frame looked other at differs entries one is one_at' =
    let l = looked entries one is one_at' in
    by l.0 l.1 l.2
  where
    by : (left : List Entry) → IsStackAt kept rest left → Contains entries one ↔ Contains left one
        → (left' : List Entry) × IsStackAt kept frame.below left' × (Contains entries one ↔ Contains left' one)
    by [] is_left same = absurd (other is_left)
    by (top ∷ below) is_left same =
        let t = top_some kept rest (top ∷ below) frame other at is_left in
        let not_top : ¬ (top ≡ one) = λ e. differs (once.entries frame.entry entry one (t.0 ∙ ap Some e) one_at') in (
          below,
          t.1,
          (
            λ h. elim (Contains-cases top below one (same.0 h)) [ inl e ↦ absurd (not_top e) | inr later ↦ later ],
            λ h. same.1 (Contains-later top below one h),
          ),
        )

pub look_found : (kept : Kept) (stack entry rest : ℕ) (frame : Frame) → IsLookedFor kept stack entry rest → (¬ (rest ≡ 0))
    → slice_get kept.frames (rest - 1) ≡ Some frame → frame.entry ≡ entry
    → (entries : List Entry) (one : Entry) → IsStackAt kept stack entries → slice_get kept.entries entry ≡ Some one → Contains entries one
look_found kept stack entry rest frame looked other at same_entry entries one is one_at' =
    let l = looked entries one is one_at' in
    by l.0 l.1 l.2
  where
    by : (left : List Entry) → IsStackAt kept rest left → Contains entries one ↔ Contains left one → Contains entries one
    by [] is_left same = absurd (other is_left)
    by (top ∷ below) is_left same =
        let t = top_some kept rest (top ∷ below) frame other at is_left in
        let is_one : top ≡ one =
        one_at kept.entries entry top one (subst (λ (k : ℕ). slice_get kept.entries k ≡ Some top) same_entry t.0) one_at' in
        same.1 (subst (Contains (top ∷ below)) is_one (Contains-first top below))

pub look_none : (kept : Kept) (stack entry rest : ℕ) → IsLookedFor kept stack entry rest → rest ≡ 0 → (entries : List Entry) (one : Entry)
    → IsStackAt kept stack entries
    → slice_get kept.entries entry ≡ Some one → ¬ Contains entries one
look_none kept stack entry rest looked none entries one is one_at' has =
    let l = looked entries one is one_at' in
    by l.0 l.1 (l.2.0 has)
  where
    by : (left : List Entry) → IsStackAt kept rest left → ¬ Contains left one
    by [] is_left h = Contains-none one h
    by (top ∷ below) is_left h = omega (arith, none, is_left.2)

pub some_below : (kept : Kept) (rest : ℕ) (frame : Frame) → ((entries : List Entry) × IsStackAt kept rest entries) → (¬ (rest ≡ 0))
    → slice_get kept.frames (rest - 1) ≡ Some frame
    → (entries : List Entry) × IsStackAt kept frame.below entries
some_below kept rest frame (entries, is) other at = by entries is
  where
    by : (entries : List Entry) → IsStackAt kept rest entries → (left : List Entry) × IsStackAt kept frame.below left
    by [] is' = absurd (other is')
    by (top ∷ below) is' = (below, (top_some kept rest (top ∷ below) frame other at is').1)
