-- What is in lists, and the marks of rows by their leaves.
use Rattle.std.specs.Prelude.{◌≡◌, ◌+◌, ◌<◌, ◌≤◌, ℕ, Some, List, [], ◌∷◌, ◌++◌, map, length, flat_map, slice_get, slice_index_or, All, Contains}
use Rattle.std.proofs.Common.{zero, suc, refl, sym, ap, ◌∙◌, subst, inl, inr, arith}
use Rattle.std.proofs.lemmas.List.Elements.{Contains-append_left, Contains-append_right, Contains-append_cases}
use Rattle.px_base.specs.Answers.{some_same}
use Rattle.px_base.specs.ListLaws.{Contains-none, Contains-first, Contains-later, Contains-cases}
use Rattle.px_proof.specs.declared.proof.Leaf.{Leaf}
use Rattle.px_proof.specs.Derivation.{Derivation}
use Rattle.px_proof.specs.PlaceLaws.{slice_get-read}
use Rattle.px_table.specs.declared.mark.Mark.{Mark}
use Rattle.px_table.specs.KernelLaws.{Contains-from_map}
use Rattle.px_table.specs.Marks.{mark_eq, mark_of, marks_from, row_leaves, row_marks}
use Rattle.px_table.specs.OnceLaws.{Contains-from_each_once}

-- ---- at a place

pub place_of : {X : Type 0} (xs : List X) (x : X) → Contains xs x → (p : ℕ) × (slice_get xs p ≡ Some x)
place_of xs x has = (has.0, slice_get-read xs has.0 x has.1 ∙ ap Some has.2)

pub there_at : {X : Type 0} (xs : List X) (p : ℕ) (x : X) → slice_get xs p ≡ Some x → Contains xs x
there_at [] p x at = absurd (cc)
there_at (y ∷ xs) zero x at = subst (Contains (y ∷ xs)) (some_same at) (Contains-first y xs)
there_at (y ∷ xs) (suc p) x at = Contains-later y xs x (there_at xs p x at)

pub read-at : {X : Type 0} (xs : List X) (k : ℕ) (x d : X) → slice_get xs k ≡ Some x → slice_index_or xs k d ≡ x
read-at [] k x d at = absurd (cc)
read-at (y ∷ xs) zero x d at = some_same at
read-at (y ∷ xs) (suc k) x d at = read-at xs k x d at

pub read-map : {X Y : Type 0} (f : X → Y) (xs : List X) (k : ℕ) (d : X) (e : Y) → k < length xs
    → slice_index_or (map f xs) k e ≡ f (slice_index_or xs k d)
read-map f [] k d e below = absurd (omega (arith, below))
read-map f (x ∷ xs) zero d e below = refl
read-map f (x ∷ xs) (suc k) d e below = read-map f xs k d e (omega (arith, below))

-- ---- what is in a list

pub Contains-flat_map : {X Y : Type 0} (k : X → List Y) (xs : List X) (x : X) (y : Y) → Contains xs x → Contains (k x) y
    → Contains (flat_map k xs) y
Contains-flat_map k [] x y has here = absurd (Contains-none x has)
Contains-flat_map k (z ∷ xs) x y has here = elim (Contains-cases z xs x has) [
  | inl is ↦ Contains-append_left (k z) (flat_map k xs) y (subst (λ w. Contains (k w) y) (sym is) here)
  | inr later ↦ Contains-append_right (k z) (flat_map k xs) y (Contains-flat_map k xs x y later here)
]

pub Contains-from_flat_map : {X Y : Type 0} (k : X → List Y) (xs : List X) (y : Y) → Contains (flat_map k xs) y
    → (x : X) × Contains xs x × Contains (k x) y
Contains-from_flat_map k [] y has = absurd (Contains-none y has)
Contains-from_flat_map k (z ∷ xs) y has = elim (Contains-append_cases (k z) (flat_map k xs) y has) [
  | inl here ↦ (z, Contains-first z xs, here)
  | inr later ↦ let rest = Contains-from_flat_map k xs y later in (rest.0, Contains-later z xs rest.0 rest.1, rest.2)
]

-- ---- marks

-- the mark is that of a leaf of the row at a place
pub record IsMarkAt (first : ℕ) (rows : List (List Derivation)) (mark : Mark) : Type 0 where
  pub place : ℕ
  pub row : List Derivation
  pub at : slice_get rows place ≡ Some row
  pub leaf : Leaf
  pub has : Contains (row_leaves row) leaf
  pub is : mark_of (first + place) leaf ≡ mark

-- a mark of a row is that of a leaf of it
pub row_mark-leaf : (r : ℕ) (row : List Derivation) (mark : Mark) → Contains (row_marks r row) mark
    → (leaf : Leaf) × Contains (row_leaves row) leaf × (mark_of r leaf ≡ mark)
row_mark-leaf r row mark has =
    Contains-from_map (mark_of r) (row_leaves row) mark (Contains-from_each_once mark_eq (map (mark_of r) (row_leaves row)) mark has)

pub mark-at : (first : ℕ) (rows : List (List Derivation)) (mark : Mark) → Contains (marks_from first rows) mark
    → IsMarkAt first rows mark
mark-at first [] mark has = absurd (Contains-none mark has)
mark-at first (row ∷ rows) mark has = elim (Contains-append_cases (row_marks first row) (marks_from (suc first) rows) mark has) [
  | inl here ↦
      let found = row_mark-leaf first row mark here in
      let number : first + 0 ≡ first = omega arith in
      record { place = 0; row = row; at = refl; leaf = found.0; has = found.1; is = ap (λ n. mark_of n found.0) number ∙ found.2 }
  | inr later ↦
      let rest = mark-at (suc first) rows mark later in
      let number : first + suc rest.place ≡ suc first + rest.place = omega arith in
      record {
        place = suc rest.place;
        row = rest.row;
        at = rest.at;
        leaf = rest.leaf;
        has = rest.has;
        is = ap (λ n. mark_of n rest.leaf) number ∙ rest.is;
      }
]
