-- What the marks of rows become under a function of terms that keeps different terms different.
use Rattle.std.specs.Prelude.{◌≡◌, ℕ, Bool, true, false, cond, not, List, [], ◌∷◌, ◌++◌, map, filter, flat_map, Contains}
use Rattle.std.proofs.Common.{suc, refl, sym, ap, ◌∙◌, subst, inl, inr}
use Rattle.std.proofs.lemmas.List.{map-append}
use Rattle.std.proofs.lemmas.List.Elements.{Contains-append_left, Contains-append_right, Contains-append_cases}
use Rattle.std.specs.Bool.{Decides}
use Rattle.px_base.specs.ListLaws.{Contains-first, Contains-later, Contains-none}
use Rattle.px_terms.specs.declared.term.Term.{Term}
use Rattle.px_proof.specs.declared.proof.Leaf.{Leaf}
use Rattle.px_proof.specs.Derivation.{Derivation, leaves_of, terms_of}
use Rattle.px_table.specs.declared.mark.Mark.{Mark}
use Rattle.px_table.specs.KernelLaws.{Contains-from_map}
use Rattle.px_table.specs.MarkLaws.{mark_eq-decides}
use Rattle.px_table.specs.Marks.{mark_eq, mark_of, marks_from, row_leaves, row_marks}
use Rattle.px_table.specs.Once.{each_once}
use Rattle.px_table.specs.OnceLaws.{Contains-from_each_once}
use Rattle.px_general.specs.General.{row_terms}
use Rattle.px_general.proofs.Mapped.{atom_by, leaf_by, derivation_by, rows_by, row_leaves-by, leaf-terms}
use Rattle.px_general.proofs.Reading.{Contains-flat_map, Contains-from_flat_map, lists-one}

-- ---- lists

pub filter-by : {A B : Type 0} (f : A → B) (p : B → Bool) (q : A → Bool) (xs : List A) → ((x : A) → Contains xs x → p (f x) ≡ q x)
    → filter p (map f xs) ≡ map f (filter q xs)
filter-by f p q [] each = refl
filter-by f p q (x ∷ xs) each =
    let rest = filter-by f p q xs (λ y has. each y (Contains-later x xs y has)) in
    ap (λ b. cond b (f x ∷ filter p (map f xs)) (filter p (map f xs))) (each x (Contains-first x xs)) ∙ both rest (q x)
  where
    both : filter p (map f xs) ≡ map f (filter q xs) → (b : Bool)
        → cond b (f x ∷ filter p (map f xs)) (filter p (map f xs)) ≡ map f (cond b (x ∷ filter q xs) (filter q xs))
    both rest true = ap (λ l. f x ∷ l) rest
    both rest false = rest

same_tests : (a b : Bool) → (a ≡ true → b ≡ true) → (b ≡ true → a ≡ true) → a ≡ b
same_tests true b to from = sym (to refl)
same_tests false true to from = from refl
same_tests false false to from = refl

pub each_once-by : {A B : Type 0} (f : A → B) (same : A → A → Bool) (other : B → B → Bool) → ((x y : A) → Decides (same x y) (x ≡ y))
    → ((x y : B) → Decides (other x y) (x ≡ y))
    → (xs : List A) → ((x y : A) → Contains xs x → Contains xs y → f x ≡ f y → x ≡ y)
    → each_once other (map f xs) ≡ map f (each_once same xs)
each_once-by f same other decides other_decides [] one = refl
each_once-by {A = A} f same other decides other_decides (x ∷ xs) one =
    let rest =
    each_once-by f same other decides other_decides xs
    (λ y z has there. one y z (Contains-later x xs y has) (Contains-later x xs z there)) in
    ap (λ l. f x ∷ filter (λ y. not (other (f x) y)) l) rest
    ∙ ap (λ l. f x ∷ l) (filter-by f (λ y. not (other (f x) y)) (λ y. not (same x y)) (each_once same xs)
    (λ y has. ap not (tests y (Contains-from_each_once same xs y has))))
  where
    tests : (y : A) → Contains xs y → other (f x) (f y) ≡ same x y
    tests y has = same_tests (other (f x) (f y)) (same x y)
        (λ is. (decides x y).1 (one x y (Contains-first x xs) (Contains-later x xs y has) ((other_decides (f x) (f y)).0 is)))
        (λ is. (other_decides (f x) (f y)).1 (ap f ((decides x y).0 is)))

-- ---- marks

abbrev pub mark_by : (Term → Term) → Mark → Mark
mark_by f mark = record { atom = atom_by f mark.atom; row = mark.row; column = mark.column; index = mark.index }

abbrev pub mark_terms : List Mark → List Term
mark_terms marks = flat_map (λ (mark : Mark). mark.atom.args) marks

-- a mark of a row is that of a leaf of it
pub row_mark-leaf : (r : ℕ) (row : List Derivation) (mark : Mark) → Contains (row_marks r row) mark
    → (leaf : Leaf) × Contains (row_leaves row) leaf × (mark_of r leaf ≡ mark)
row_mark-leaf r row mark has =
    Contains-from_map (mark_of r) (row_leaves row) mark (Contains-from_each_once mark_eq (map (mark_of r) (row_leaves row)) mark has)

-- the terms of a row's leaf are terms of the row
pub row_leaf-terms : (row : List Derivation) (leaf : Leaf) (t : Term) → Contains (row_leaves row) leaf → Contains leaf.atom.args t
    → Contains (flat_map terms_of row) t
row_leaf-terms row leaf t has here =
    let from = Contains-from_flat_map leaves_of row leaf has in
    Contains-flat_map terms_of row from.0 t from.1 (leaf-terms from.0 leaf t from.2 here)

-- the terms of the marks are terms of the rows
pub mark_terms-in : (first : ℕ) (rows : List (List Derivation)) (t : Term) → Contains (mark_terms (marks_from first rows)) t
    → Contains (row_terms rows) t
mark_terms-in first rows t has =
    let from = Contains-from_flat_map (λ (mark : Mark). mark.atom.args) (marks_from first rows) t has in
    of_mark first rows from.0 from.1 t from.2
  where
    of_mark : (first : ℕ) (rows : List (List Derivation)) (mark : Mark) → Contains (marks_from first rows) mark → (t : Term)
        → Contains mark.atom.args t → Contains (row_terms rows) t
    of_mark first [] mark has t here = absurd (Contains-none mark has)
    of_mark first (row ∷ rows) mark has t here = elim (Contains-append_cases (row_marks first row) (marks_from (suc first) rows) mark has) [
      | inl own ↦
          let leaf = row_mark-leaf first row mark own in
          Contains-append_left (flat_map terms_of row) (row_terms rows) t
          (row_leaf-terms row leaf.0 t leaf.1 (subst (λ (m : Mark). Contains m.atom.args t) (sym leaf.2) here))
      | inr later ↦ Contains-append_right (flat_map terms_of row) (row_terms rows) t (of_mark (suc first) rows mark later t here)
    ]

module _ (f : Term → Term) where
  abbrev pub KeepsApart : List Term → Type 0
  KeepsApart ts = (t u : Term) → Contains ts t → Contains ts u → f t ≡ f u → t ≡ u

  marks_of-by : (r : ℕ) (leaves : List Leaf) → map (mark_of r) (map (leaf_by f) leaves) ≡ map (mark_by f) (map (mark_of r) leaves)
  marks_of-by r [] = refl
  marks_of-by r (leaf ∷ leaves) = ap (λ l. mark_by f (mark_of r leaf) ∷ l) (marks_of-by r leaves)

  one_mark : (r : ℕ) (row : List Derivation) → KeepsApart (flat_map terms_of row) → (m n : Mark)
      → Contains (map (mark_of r) (row_leaves row)) m → Contains (map (mark_of r) (row_leaves row)) n
      → mark_by f m ≡ mark_by f n → m ≡ n
  one_mark r row apart m n has there same =
      let one = Contains-from_map (mark_of r) (row_leaves row) m has in
      let other = Contains-from_map (mark_of r) (row_leaves row) n there in
      let args : m.atom.args ≡ n.atom.args = lists-one f m.atom.args n.atom.args
      (λ t u in_m in_n. apart t u
      (row_leaf-terms row one.0 t one.1 (subst (λ (x : Mark). Contains x.atom.args t) (sym one.2) in_m))
      (row_leaf-terms row other.0 u other.1 (subst (λ (x : Mark). Contains x.atom.args u) (sym other.2) in_n)))
      (ap (λ (x : Mark). x.atom.args) same) in
      λ i. record {
        atom = record { pred = ap (λ (x : Mark). x.atom.pred) same i; args = args i };
        row = ap (λ (x : Mark). x.row) same i;
        column = ap (λ (x : Mark). x.column) same i;
        index = ap (λ (x : Mark). x.index) same i;
      }

  row_marks-by : (r : ℕ) (row : List Derivation) → KeepsApart (flat_map terms_of row)
      → row_marks r (map (derivation_by f) row) ≡ map (mark_by f) (row_marks r row)
  row_marks-by r row apart =
      ap (λ l. each_once mark_eq (map (mark_of r) l)) (row_leaves-by f row) ∙ ap (each_once mark_eq) (marks_of-by r (row_leaves row))
      ∙ each_once-by (mark_by f) mark_eq mark_eq mark_eq-decides mark_eq-decides (map (mark_of r) (row_leaves row)) (one_mark r row apart)

  pub marks-by : (first : ℕ) (rows : List (List Derivation)) → KeepsApart (row_terms rows)
      → marks_from first (rows_by f rows) ≡ map (mark_by f) (marks_from first rows)
  marks-by first [] apart = refl
  marks-by first (row ∷ rows) apart =
      let own =
      row_marks-by first row (λ t u has there. apart t u (Contains-append_left (flat_map terms_of row) (row_terms rows) t has)
      (Contains-append_left (flat_map terms_of row) (row_terms rows) u there)) in
      let rest =
      marks-by (suc first) rows (λ t u has there. apart t u (Contains-append_right (flat_map terms_of row) (row_terms rows) t has)
      (Contains-append_right (flat_map terms_of row) (row_terms rows) u there)) in
      ap (λ l. l ++ marks_from (suc first) (rows_by f rows)) own ∙ ap (λ l. map (mark_by f) (row_marks first row) ++ l) rest
      ∙ sym (map-append (mark_by f) (row_marks first row) (marks_from (suc first) rows))
