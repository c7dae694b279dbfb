-- Steps over the leaves of the proofs of a row, and over the marks of rows.
use Rattle.std.proofs.Common.{◌≡◌, ◌↔◌, ℕ, zero, suc, ◌+◌, ◌<◌, ◌≤◌, List, [], ◌∷◌, ◌++◌, length, map, drop, get_or, sym, subst, arith, add-one}
use Rattle.std.specs.Prelude.{All}
use Rattle.std.proofs.lemmas.List.{drop_all}
use Rattle.std.proofs.lemmas.List.Elements.{All-append, All-map, All-nil}
use Rattle.px_base.specs.ListLaws.{All-at, All-each}
use Rattle.px_proof.specs.declared.proof.Leaf.{Leaf}
use Rattle.px_proof.specs.declared.proof.Proof.{Proof}
use Rattle.px_proof.specs.Derivation.{derivations, leaves_of, all_leaves_of}
use Rattle.px_proof.specs.PlaceLaws.{All-back, All-prefix, Contains-mapped}
use Rattle.px_proof.specs.ProofTerm.{derivation_of}
use Rattle.px_table.specs.declared.mark.Mark.{Mark}
use Rattle.px_table.specs.MarkLaws.{all_leaves-row, mark_eq-decides}
use Rattle.px_table.specs.Marks.{mark_eq, mark_of, marks_from, row_leaves, row_marks}
use Rattle.px_table.specs.OnceLaws.{Contains-each_once, Contains-from_each_once}
use Rattle.px_table.specs.Tables.{rows_of}

both_parts : {X : Type 0} (P : X → Type 0) (xs ys : List X) → All P (xs ++ ys) ↔ (All P xs × All P ys)
both_parts P xs ys = (λ all. (All-prefix P xs ys all, All-back P xs ys all), λ h. All-append P xs ys h.0 h.1)

module _ (P : Leaf → Type 0) where
  abbrev Pass : List Proof → Type 0
  Pass proofs = All P (all_leaves_of (derivations (map derivation_of proofs)))

  split_at : (proofs : List Proof) (k : ℕ) (proof : Proof) → proof ≡ get_or proofs k proof → k < length proofs
      → Pass (drop k proofs) ↔ (All P (leaves_of (derivation_of proof)) × Pass (drop (suc k) proofs))
  split_at [] k proof is below = absurd (omega (arith, below))
  split_at (p ∷ proofs) zero proof is below =
      rw is (both_parts P (leaves_of (derivation_of p)) (all_leaves_of (derivations (map derivation_of proofs))))
  split_at (p ∷ proofs) (suc k) proof is below = split_at proofs k proof is (omega (arith, below))

  -- the leaves from one proof on are those of that proof and those after it
  pub leaves-split : (proofs : List Proof) (k : ℕ) (proof : Proof) → proof ≡ get_or proofs k proof → k < length proofs
      → Pass (drop k proofs) ↔ (All P (leaves_of (derivation_of proof)) × Pass (drop (k + 1) proofs))
  leaves-split proofs k proof is below = rw (add-one k) (split_at proofs k proof is below)

  pub no-leaves : (proofs : List Proof) (k : ℕ) → length proofs ≤ k → Pass (drop k proofs)
  no-leaves proofs k end = subst Pass (sym (drop_all k proofs end)) (All-nil P)

module _ (Q : Mark → Type 0) where
  -- the marks of a row pass where those of its leaves do
  row_passes : (row : ℕ) (proofs : List Proof)
      → All Q (row_marks row (map derivation_of proofs))
      ↔ All (λ (leaf : Leaf). Q (mark_of row leaf)) (all_leaves_of (derivations (map derivation_of proofs)))
  row_passes row proofs =
      let leaves = row_leaves (map derivation_of proofs) in
      rw (all_leaves-row (map derivation_of proofs)) (
        λ all.
            All-each (λ (leaf : Leaf). Q (mark_of row leaf)) leaves (λ leaf has.
            All-at Q (row_marks row (map derivation_of proofs)) (mark_of row leaf) all
            (Contains-each_once mark_eq mark_eq-decides (map (mark_of row) leaves) (mark_of row leaf)
            (Contains-mapped (mark_of row) leaves leaf has))),
        λ all.
            All-each Q (row_marks row (map derivation_of proofs)) (λ mark has.
            All-at Q (map (mark_of row) leaves) mark (All-map Q (mark_of row) leaves all)
            (Contains-from_each_once mark_eq (map (mark_of row) leaves) mark has)),
      )

  abbrev Named : ℕ → List (List Proof) → Type 0
  Named row rows = All Q (marks_from row (rows_of rows))

  rows_at : (rows : List (List Proof)) (k : ℕ) (row : List Proof) → row ≡ get_or rows k row → k < length rows
      → Named (suc k) (drop k rows)
      ↔ (All (λ (leaf : Leaf). Q (mark_of (suc k) leaf)) (all_leaves_of (derivations (map derivation_of row)))
      × Named (suc (suc k)) (drop (suc k) rows))
  rows_at rows k row is below = by (suc k) rows k is below where
    by : (number : ℕ) (rows : List (List Proof)) (k : ℕ) → row ≡ get_or rows k row → k < length rows
        → Named number (drop k rows)
        ↔ (All (λ (leaf : Leaf). Q (mark_of number leaf)) (all_leaves_of (derivations (map derivation_of row)))
        × Named (suc number) (drop (suc k) rows))
    by number [] k is below = absurd (omega (arith, below))
    by number (r ∷ rows) zero is below =
        let parts = both_parts Q (row_marks number (map derivation_of r)) (marks_from (suc number) (rows_of rows)) in
        let passes = row_passes number r in
        rw is (λ all. (passes.0 (parts.0 all).0, (parts.0 all).1), λ h. parts.1 (passes.1 h.0, h.1))
    by number (r ∷ rows) (suc k) is below = by number rows k is (omega (arith, below))

  -- the marks from one row on are those of that row and those after it
  pub marks-split : (rows : List (List Proof)) (k : ℕ) (row : List Proof) → row ≡ get_or rows k row → k < length rows
      → Named (suc k) (drop k rows)
      ↔ (All (λ (leaf : Leaf). Q (mark_of (suc k) leaf)) (all_leaves_of (derivations (map derivation_of row)))
      × Named (suc (suc k)) (drop (suc k) rows))
  marks-split rows k row is below = rows_at rows k row is below

  pub no-marks : (rows : List (List Proof)) (k : ℕ) → length rows ≤ k → Named (suc k) (drop k rows)
  no-marks rows k end = subst (Named (suc k)) (sym (drop_all k rows end)) (All-nil Q)
