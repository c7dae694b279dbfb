-- One mark more, in a kernel and in the marks of rows.
use Rattle.std.proofs.Common.{◌≡◌, ℕ, ◌+◌, ◌<◌, Bool, true, false, cond, ◌&&◌, ◌||◌, List, [], ◌∷◌, ◌++◌, length, map, take, get_or, refl, sym, ap, ◌∙◌, arith, append-nil, length-take}
use Rattle.std.specs.Prelude.{filter, nat_le, nat_lt}
use Rattle.std.specs.List.{list_any}
use Rattle.std.proofs.lemmas.List.{take_more, map-append, length-map}
use Rattle.std.proofs.lemmas.List.Elements.{filter-append}
use Rattle.indexmap.specs.IndexSet.{insert_key}
use Rattle.px_terms.specs.declared.atom.Atom.{Atom}
use Rattle.px_terms.specs.Order.{atom_eq}
use Rattle.px_terms.specs.OrderLaws.{atom_eq-decides, decides_equiv}
use Rattle.px_proof.specs.declared.proof.Proof.{Proof}
use Rattle.px_proof.specs.Derivation.{leaves_of}
use Rattle.px_proof.specs.ProofTerm.{derivation_of}
use Rattle.px_table.specs.declared.mark.Mark.{Mark}
use Rattle.px_table.specs.MarkLaws.{mark_eq-decides, marks_from-push, row_leaves-append}
use Rattle.px_table.specs.Marks.{mark_eq, mark_of, marks_from, row_leaves, row_marks}
use Rattle.px_table.specs.Once.{each_once, put_each, put_once}
use Rattle.px_table.specs.OnceLaws.{each_once-push, put_each-append}
use Rattle.px_table.specs.Tables.{rows_of}

module _ (marks : List Mark) (i k : ℕ) (mark : Mark) (is : mark ≡ get_or marks k mark) (below : k < length marks) where
  abbrev test : Mark → Bool
  test m = nat_le i m.row && nat_lt m.column i

  abbrev so_far : List Atom
  so_far = map (λ (m : Mark). m.atom) (filter test (take k marks))

  pub kernel-more : each_once atom_eq (map (λ (m : Mark). m.atom) (filter test (take (k + 1) marks)))
      ≡ cond (test mark) (put_once atom_eq (each_once atom_eq so_far) mark.atom) (each_once atom_eq so_far)
  kernel-more =
      ap (λ ms. each_once atom_eq (map (λ (m : Mark). m.atom) (filter test ms)))
      (take_more marks k mark below ∙ ap (λ m. take k marks ++ m ∷ []) (sym is))
      ∙ ap (λ ms. each_once atom_eq (map (λ (m : Mark). m.atom) ms)) (filter-append test (take k marks) (mark ∷ []))
      ∙ by_test (test mark)
    where
      by_test : (b : Bool) → each_once atom_eq (map (λ (m : Mark). m.atom) (filter test (take k marks) ++ cond b (mark ∷ []) []))
          ≡ cond b (put_once atom_eq (each_once atom_eq so_far) mark.atom) (each_once atom_eq so_far)
      by_test true =
          ap (each_once atom_eq) (map-append (λ (m : Mark). m.atom) (filter test (take k marks)) (mark ∷ []))
          ∙ each_once-push atom_eq atom_eq-decides so_far mark.atom
      by_test false = ap (λ ms. each_once atom_eq (map (λ (m : Mark). m.atom) ms)) (append-nil (filter test (take k marks)))

-- the marks of one proof more
pub leaves-more : (number : ℕ) (proofs : List Proof) (k : ℕ) (proof : Proof) → proof ≡ get_or proofs k proof → k < length proofs
    → put_each mark_eq (put_each mark_eq [] (map (mark_of number) (row_leaves (map derivation_of (take k proofs)))))
    (map (mark_of number) (leaves_of (derivation_of proof)))
    ≡ put_each mark_eq [] (map (mark_of number) (row_leaves (map derivation_of (take (k + 1) proofs))))
leaves-more number proofs k proof is below =
    let before = row_leaves (map derivation_of (take k proofs)) in
    sym (ap (λ ps. put_each mark_eq [] (map (mark_of number) (row_leaves (map derivation_of ps))))
    (take_more proofs k proof below ∙ ap (λ p. take k proofs ++ p ∷ []) (sym is))
    ∙ ap (λ ds. put_each mark_eq [] (map (mark_of number) (row_leaves ds))) (map-append derivation_of (take k proofs) (proof ∷ []))
    ∙ ap (λ ls. put_each mark_eq [] (map (mark_of number) ls))
    (row_leaves-append (map derivation_of (take k proofs)) (derivation_of proof ∷ [])
    ∙ ap (λ l. before ++ l) (append-nil (leaves_of (derivation_of proof))))
    ∙ ap (put_each mark_eq []) (map-append (mark_of number) before (leaves_of (derivation_of proof)))
    ∙ put_each-append mark_eq [] (map (mark_of number) before) (map (mark_of number) (leaves_of (derivation_of proof))))

-- the marks of one row more
pub rows-more : (rows : List (List Proof)) (k : ℕ) (row : List Proof) → row ≡ get_or rows k row → k < length rows
    → marks_from 1 (rows_of (take k rows)) ++ row_marks (k + 1) (map derivation_of row) ≡ marks_from 1 (rows_of (take (k + 1) rows))
rows-more rows k row is below =
    let count : k + 1 ≡ 1 + length (rows_of (take k rows)) = simp (length-map, length-take) (omega arith) in
    sym (ap (λ rs. marks_from 1 (rows_of rs)) (take_more rows k row below ∙ ap (λ r. take k rows ++ r ∷ []) (sym is))
    ∙ ap (marks_from 1) (map-append (map derivation_of) (take k rows) (row ∷ []))
    ∙ marks_from-push 1 (k + 1) (rows_of (take k rows)) (map derivation_of row) count)

-- the keys of a set of marks, with a mark inserted, are the marks with this one put
pub insert_key-put_once : (marks : List Mark) (mark : Mark) → insert_key mark_eq marks mark ≡ put_once mark_eq marks mark
insert_key-put_once marks mark = ap (λ (b : Bool). cond b marks (marks ++ mark ∷ [])) (among marks)
  where
    among : (ms : List Mark) → list_any (mark_eq mark) ms ≡ list_any (λ other. mark_eq other mark) ms
    among [] = refl
    among (m ∷ ms) = λ i. (decides_equiv mark_eq mark_eq-decides).symm mark m i || among ms i
