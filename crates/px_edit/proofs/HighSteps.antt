-- A proof of the kept rows is high where one of a kept row's proof terms is.
use Rattle.std.specs.Prelude.{◌≡◌, ◌<◌, ◌-◌, ℕ, List, [], ◌∷◌, map, length, slice_index, slice_index_or, Any, Contains}
use Rattle.std.proofs.Common.{zero, suc, refl, sym, ap, ◌∙◌, subst, arith}
use Rattle.std.proofs.lemmas.List.{length-map}
use Rattle.px_proof.specs.declared.proof.Proof.{Proof}
use Rattle.px_proof.specs.Derivation.{Derivation, height}
use Rattle.px_proof.specs.PlaceLaws.{Contains-mapped, slice_get-within}
use Rattle.px_proof.specs.ProofTerm.{derivation_of}
use Rattle.px_table.specs.KernelLaws.{Contains-from_map}
use Rattle.px_table.specs.Tables.{rows_of}
use Rattle.px_edit.specs.EditCauses.{most_kept_height}
use Rattle.px_edit.specs.Editing.{kept_of}
use Rattle.px_edit.proofs.Lists.{place_of, read-at, read-map}
use Rattle.px_edit.proofs.PartSteps.{row-at}

abbrev IsHigh : Derivation → Type 0
IsHigh d = most_kept_height < height d

abbrev IsHighProof : Proof → Type 0
IsHighProof proof = most_kept_height < height (derivation_of proof)

to_any : {X : Type 0} (P : X → Type 0) (xs : List X) (x : X) → Contains xs x → P x → Any P xs
to_any P xs x has holds = (has.0, x, has.1, has.2, holds)

-- an `Any` is an item that is there
pub any-item : {X : Type 0} (P : X → Type 0) (xs : List X) → Any P xs → (x : X) × Contains xs x × P x
any-item P xs found = (found.1, (found.0, found.2, found.3), found.4)

high-row : (row : List Proof) → Any IsHighProof row → Any IsHigh (map derivation_of row)
high-row row found =
    let item = any-item IsHighProof row found in
    to_any IsHigh (map derivation_of row) (derivation_of item.0) (Contains-mapped derivation_of row item.0 item.1) item.2

high-back : (row : List Proof) → Any IsHigh (map derivation_of row) → Any IsHighProof row
high-back row found =
    let item = any-item IsHigh (map derivation_of row) found in
    let from = Contains-from_map derivation_of row item.0 item.1 in
    to_any IsHighProof row from.0 from.1 (subst IsHigh (sym from.2) item.2)

module _ (rows : List (List Proof)) (kept : List ℕ) where
  abbrev row_of : ℕ → List Derivation
  row_of k = slice_index_or (rows_of rows) (k - 1) []

  pub high-there : (place : ℕ) → place < length kept → Any IsHighProof (slice_index_or rows (slice_index kept place - 1) [])
      → Any (Any IsHigh) (kept_of [] kept (rows_of rows))
  high-there place below found =
      let k = slice_index kept place in
      to_any (Any IsHigh) (kept_of [] kept (rows_of rows)) (row_of k)
      (Contains-mapped row_of kept k (place, below, read-again kept place below))
      (subst (Any IsHigh) (sym (row-at rows (k - 1))) (high-row (slice_index_or rows (k - 1) []) found))
    where
      read-again : (xs : List ℕ) (i : ℕ) → i < length xs → slice_index_or xs i (slice_index xs i) ≡ slice_index xs i
      read-again [] i below = absurd (omega (arith, below))
      read-again (x ∷ xs) zero below = refl
      read-again (x ∷ xs) (suc i) below = read-again xs i (omega (arith, below))

  pub high-nowhere : ((k : ℕ) → k < length kept → ¬ Any IsHighProof (slice_index_or rows (slice_index kept k - 1) []))
      → ¬ Any (Any IsHigh) (kept_of [] kept (rows_of rows))
  high-nowhere none found =
      let row = any-item (Any IsHigh) (kept_of [] kept (rows_of rows)) found in
      let from = Contains-from_map row_of kept row.0 row.1 in
      let place = place_of kept from.0 from.1 in
      let at : slice_index kept place.0 ≡ from.0 = read-at kept place.0 from.0 0 place.1 in
      none place.0 (slice_get-within kept place.0 from.0 place.1)
      (subst (λ k. Any IsHighProof (slice_index_or rows (k - 1) [])) (sym at)
      (high-back (slice_index_or rows (from.0 - 1) [])
      (subst (Any IsHigh) (sym from.2 ∙ row-at rows (from.0 - 1)) row.2)))
