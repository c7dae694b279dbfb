-- The laws of marks: `==` is equality, and how the marks of rows are made.
use Rattle.std.specs.Prelude.{◌≡◌, ◌+◌, ℕ, List, [], ◌∷◌, ◌++◌, length, map}
use Rattle.std.proofs.Common.{suc, refl, sym, ap, ◌∙◌, append_assoc, append-nil, arith}
use Rattle.std.proofs.lemmas.Bool.Decides.{Decides-and, Decides-eqb, Decides-like}
use Rattle.std.specs.Bool.{Decides}
use Rattle.px_terms.specs.OrderLaws.{atom_eq-decides}
use Rattle.px_proof.specs.Derivation.{Derivation, derivations, leaves_of, all_leaves_of}
use Rattle.px_table.specs.declared.mark.Mark.{Mark}
use Rattle.px_table.specs.Marks.{MarksAreCompared, mark_eq, mark_of, marks_from, row_leaves, row_marks}
use Rattle.px_table.specs.Once.{put_each}
use Rattle.px_table.specs.OnceLaws.{put_each-each_once}

pub mark_eq-decides : (first second : Mark) → Decides (mark_eq first second) (first ≡ second)
mark_eq-decides m n =
    Decides-like _ (λ e i. record { atom = e.0 i; row = e.1.0 i; column = e.1.1.0 i; index = e.1.1.1 i })
    (λ e. (ap (λ (x : Mark). x.atom) e, (ap (λ (x : Mark). x.row) e, (ap (λ (x : Mark). x.column) e, ap (λ (x : Mark). x.index) e))))
    (Decides-and _ _ (atom_eq-decides m.atom n.atom) (Decides-and _ _ (Decides-eqb m.row n.row)
    (Decides-and _ _ (Decides-eqb m.column n.column) (Decides-eqb m.index n.index))))

pub marks_are_compared : MarksAreCompared
marks_are_compared = record { computes = λ first second. refl; equality = mark_eq-decides }

-- the leaves of parts are the leaves of a row
pub all_leaves-row : (row : List Derivation) → all_leaves_of (derivations row) ≡ row_leaves row
all_leaves-row [] = refl
all_leaves-row (d ∷ row) = ap (λ l. leaves_of d ++ l) (all_leaves-row row)

pub row_leaves-append : (xs ys : List Derivation) → row_leaves (xs ++ ys) ≡ row_leaves xs ++ row_leaves ys
row_leaves-append [] ys = refl
row_leaves-append (x ∷ xs) ys = ap (λ l. leaves_of x ++ l) (row_leaves-append xs ys) ∙ sym
    (append_assoc (leaves_of x) (row_leaves xs) (row_leaves ys))

-- the marks of a row are its leaves put one after the other
pub row_marks-put : (row : ℕ) (proofs : List Derivation) → put_each mark_eq [] (map (mark_of row) (row_leaves proofs)) ≡ row_marks row
    proofs
row_marks-put row proofs = put_each-each_once mark_eq mark_eq-decides [] (map (mark_of row) (row_leaves proofs))

-- the marks of one row more
pub marks_from-push : (first last : ℕ) (rows : List (List Derivation)) (row : List Derivation) → last ≡ first + length rows
    → marks_from first (rows ++ row ∷ []) ≡ marks_from first rows ++ row_marks last row
marks_from-push first last [] row e =
    let number : first ≡ last = omega arith in
    append-nil (row_marks first row) ∙ ap (λ n. row_marks n row) number
marks_from-push first last (r ∷ rows) row e =
    ap (λ l. row_marks first r ++ l) (marks_from-push (suc first) last rows row (omega arith)) ∙ sym
    (append_assoc (row_marks first r) (marks_from (suc first) rows) (row_marks last row))
