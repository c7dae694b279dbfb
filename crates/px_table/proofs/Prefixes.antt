-- A list that is compared from the front with the marks of leaves.
use Rattle.std.proofs.Common.{◌≡◌, ◌↔◌, ℕ, zero, suc, ◌+◌, ◌<◌, ◌≤◌, Bool, true, false, cond, List, [], ◌∷◌, ◌++◌, length, map, take, drop, get_or, sym, ap, ◌∙◌, arith, append_assoc, Some, None}
use Rattle.std.specs.List.{list_any}
use Rattle.std.proofs.Math.Seq.{drop-cons}
use Rattle.std.proofs.lemmas.List.{append_cancel_left, append-nil, map-append, take_more, take-append-drop}
use Rattle.px_base.specs.Answers.{both_answers}
use Rattle.px_proof.specs.declared.proof.Proof.{Proof}
use Rattle.px_proof.specs.Derivation.{Derivation, derivations, leaves_of, all_leaves_of}
use Rattle.px_proof.specs.ProofTerm.{derivation_of}
use Rattle.px_table.specs.declared.mark.Mark.{Mark}
use Rattle.px_table.specs.MarkLaws.{mark_eq-decides, all_leaves-row, row_leaves-append}
use Rattle.px_table.specs.Marks.{mark_eq, mark_of, marks_from, row_leaves, row_marks}
use Rattle.px_table.specs.Once.{IsPrefix, put_each, put_once}
use Rattle.px_table.specs.OnceLaws.{put_each-append, put_each-prefix}

pub put_once-new : {A : Type 0} (same : A → A → Bool) (xs : List A) (x : A) → list_any (λ y. same y x) xs ≡ false
    → put_once same xs x ≡ xs ++ x ∷ []
put_once-new same xs x is = ap (λ b. cond b xs (xs ++ x ∷ [])) is

pub put_once-there : {A : Type 0} (same : A → A → Bool) (xs : List A) (x : A) → list_any (λ y. same y x) xs ≡ true → put_once same xs x ≡ xs
put_once-there same xs x is = ap (λ b. cond b xs (xs ++ x ∷ [])) is

-- where the list goes on with an item behind its first ones, the item stands there
item_behind : {A : Type 0} (xs : List A) (k : ℕ) (x : A) (rest : List A) (d : A) → xs ≡ take k xs ++ x ∷ rest → k ≤ length xs
    → (k < length xs) × (get_or xs k d ≡ x)
item_behind [] zero x rest d e h = absurd (cc)
item_behind [] (suc k) x rest d e h = absurd (cc)
item_behind (y ∷ ys) zero x rest d e h = (omega arith, cc)
item_behind (y ∷ ys) (suc k) x rest d e h =
    let tail : ys ≡ take k ys ++ x ∷ rest = cc in
    let r = item_behind ys k x rest d tail (omega (arith, h)) in
    (omega (arith, r.0), r.1)

-- ---- one leaf

module _ (marks : List Mark) (count : ℕ) (mark : Mark) (within : count ≤ length marks) where
  pub prefix-there : list_any (λ other. mark_eq other mark) (take count marks) ≡ true
      → IsPrefix marks (put_once mark_eq (take count marks) mark) (Some count)
  prefix-there is = (within, sym (put_once-there mark_eq (take count marks) mark is))

  pub prefix-more : (item : Mark) → list_any (λ other. mark_eq other mark) (take count marks) ≡ false → count < length marks
      → item ≡ get_or marks count item → mark_eq item mark ≡ true
      → IsPrefix marks (put_once mark_eq (take count marks) mark) (Some (count + 1))
  prefix-more item new below is same = (
    omega arith,
    take_more marks count item below ∙ ap (λ m. take count marks ++ m ∷ []) (sym is ∙ (mark_eq-decides item mark).0 same)
        ∙ sym (put_once-new mark_eq (take count marks) mark new),
  )

  behind : (rest : List Mark) → list_any (λ other. mark_eq other mark) (take count marks) ≡ false
      → marks ≡ put_once mark_eq (take count marks) mark ++ rest
      → (d : Mark) → (count < length marks) × (get_or marks count d ≡ mark)
  behind rest new e d =
      item_behind marks count mark rest d (e ∙ ap (λ l. l ++ rest) (put_once-new mark_eq (take count marks) mark new)
      ∙ append_assoc (take count marks) (mark ∷ []) rest) within

  pub prefix-other : (item : Mark) → list_any (λ other. mark_eq other mark) (take count marks) ≡ false → item ≡ get_or marks count item
      → mark_eq item mark ≡ false
      → IsPrefix marks (put_once mark_eq (take count marks) mark) None
  prefix-other item new is other rest e =
      both_answers (mark_eq item mark) other ((mark_eq-decides item mark).1 (is ∙ (behind rest new e item).1))

  pub prefix-end : list_any (λ other. mark_eq other mark) (take count marks) ≡ false → length marks ≤ count
      → IsPrefix marks (put_once mark_eq (take count marks) mark) None
  prefix-end new end rest e = omega (arith, (behind rest new e mark).0)

-- ---- the leaves of several proofs

-- the marks of the leaves of the first proofs
abbrev pub first_marks : ℕ → List Proof → ℕ → List Mark
first_marks row proofs k = map (mark_of row) (all_leaves_of (derivations (map derivation_of (take k proofs))))

abbrev pub all_marks : ℕ → List Proof → List Mark
all_marks row proofs = map (mark_of row) (all_leaves_of (derivations (map derivation_of proofs)))

leaves-append : (xs ys : List Derivation)
    → all_leaves_of (derivations (xs ++ ys)) ≡ all_leaves_of (derivations xs) ++ all_leaves_of (derivations ys)
leaves-append xs ys =
    all_leaves-row (xs ++ ys) ∙ row_leaves-append xs ys ∙ ap (λ l. l ++ row_leaves ys) (sym (all_leaves-row xs))
    ∙ ap (λ l. all_leaves_of (derivations xs) ++ l) (sym (all_leaves-row ys))

marks-append : (row : ℕ) (xs ys : List Proof) → all_marks row (xs ++ ys) ≡ all_marks row xs ++ all_marks row ys
marks-append row xs ys =
    ap (λ l. map (mark_of row) (all_leaves_of (derivations l))) (map-append derivation_of xs ys)
    ∙ ap (map (mark_of row)) (leaves-append (map derivation_of xs) (map derivation_of ys))
    ∙ map-append (mark_of row) (all_leaves_of (derivations (map derivation_of xs))) (all_leaves_of (derivations (map derivation_of ys)))

one-mark : (row : ℕ) (proof : Proof) → all_marks row (proof ∷ []) ≡ map (mark_of row) (leaves_of (derivation_of proof))
one-mark row proof = ap (map (mark_of row)) (all_leaves-row (derivation_of proof ∷ []) ∙ append-nil (leaves_of (derivation_of proof)))

module _ (marks : List Mark) (count row : ℕ) (proofs : List Proof) (k : ℕ) (proof : Proof) (is : proof ≡ get_or proofs k proof)
    (below : k < length proofs)
    (at : ℕ) (prefix : take at marks ≡ put_each mark_eq (take count marks) (first_marks row proofs k)) where
  marks-more : first_marks row proofs (k + 1) ≡ first_marks row proofs k ++ map (mark_of row) (leaves_of (derivation_of proof))
  marks-more =
      ap (all_marks row) (take_more proofs k proof below ∙ ap (λ p. take k proofs ++ p ∷ []) (sym is))
      ∙ marks-append row (take k proofs) (proof ∷ [])
      ∙ ap (λ l. first_marks row proofs k ++ l) (one-mark row proof)

  put-more : put_each mark_eq (take at marks) (map (mark_of row) (leaves_of (derivation_of proof)))
      ≡ put_each mark_eq (take count marks) (first_marks row proofs (k + 1))
  put-more =
      ap (λ l. put_each mark_eq l (map (mark_of row) (leaves_of (derivation_of proof)))) prefix
      ∙ sym (put_each-append mark_eq (take count marks) (first_marks row proofs k) (map (mark_of row) (leaves_of (derivation_of proof))))
      ∙ ap (put_each mark_eq (take count marks)) (sym marks-more)

  pub walk-next : (next : ℕ) → IsPrefix marks (put_each mark_eq (take at marks) (map (mark_of row) (leaves_of (derivation_of proof))))
      (Some next)
      → (next ≤ length marks) × (take next marks ≡ put_each mark_eq (take count marks) (first_marks row proofs (k + 1)))
  walk-next next h = (h.0, h.1 ∙ put-more)

  pub walk-fails : IsPrefix marks (put_each mark_eq (take at marks) (map (mark_of row) (leaves_of (derivation_of proof)))) None
      → IsPrefix marks (put_each mark_eq (take count marks) (all_marks row proofs)) None
  walk-fails h rest e =
      let split : all_marks row proofs ≡ first_marks row proofs (k + 1) ++ all_marks row (drop (k + 1) proofs) =
      ap (all_marks row) (sym (take-append-drop (k + 1) proofs)) ∙ marks-append row (take (k + 1) proofs) (drop (k + 1) proofs) in
      let whole =
      ap (put_each mark_eq (take count marks)) split
      ∙ put_each-append mark_eq (take count marks) (first_marks row proofs (k + 1)) (all_marks row (drop (k + 1) proofs)) in
      let later =
      put_each-prefix mark_eq (put_each mark_eq (take count marks) (first_marks row proofs (k + 1)))
      (all_marks row (drop (k + 1) proofs)) in
      h (later.0 ++ rest)
      (e ∙ ap (λ l. l ++ rest) (whole ∙ later.1 ∙ ap (λ l. l ++ later.0) (sym put-more))
      ∙ append_assoc (put_each mark_eq (take at marks) (map (mark_of row) (leaves_of (derivation_of proof)))) later.0 rest)

-- ---- row by row

module _ (marks : List Mark) (rows : List (List Derivation)) (k at : ℕ) (row : List Derivation) (below : k < length rows)
    (is : get_or rows k row ≡ row) where
  here : marks_from (suc k) (drop k rows) ≡ row_marks (suc k) row ++ marks_from (suc (suc k)) (drop (suc k) rows)
  here = ap (marks_from (suc k)) (drop-cons rows k row below ∙ ap (λ r. r ∷ drop (suc k) rows) is)

  pub rows-next : (count : ℕ) → IsPrefix (drop at marks) (row_marks (suc k) row) (Some count)
      → (drop count (drop at marks) ≡ marks_from (suc (suc k)) (drop (suc k) rows)) ↔ (drop at marks ≡ marks_from (suc k) (drop k rows))
  rows-next count prefix =
      let split : drop at marks ≡ row_marks (suc k) row ++ drop count (drop at marks) =
      sym (take-append-drop count (drop at marks)) ∙ ap (λ l. l ++ drop count (drop at marks)) prefix.1 in (
        λ rest. split ∙ ap (λ l. row_marks (suc k) row ++ l) rest ∙ sym here,
        λ whole. append_cancel_left (row_marks (suc k) row) _ _ (sym split ∙ whole ∙ here),
      )

  pub rows-fail : IsPrefix (drop at marks) (row_marks (suc k) row) None → ¬ (drop at marks ≡ marks_from (suc k) (drop k rows))
  rows-fail prefix whole = prefix (marks_from (suc (suc k)) (drop (suc k) rows)) (whole ∙ here)
