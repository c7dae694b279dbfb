-- A proof of the table's rows is high where one of its proof terms is.
use Rattle.std.specs.Prelude.{◌≡◌, ◌↔◌, ◌<◌, ℕ, List, [], ◌∷◌, map, length, slice_index_or, Any}
use Rattle.std.proofs.Common.{zero, suc, refl, sym, ap, ◌∙◌, subst, arith}
use Rattle.std.proofs.lemmas.List.{length-map}
use Rattle.px_proof.specs.declared.proof.Proof.{Proof}
use Rattle.px_proof.specs.Derivation.{Derivation, height}
use Rattle.px_proof.specs.ProofTerm.{derivation_of}
use Rattle.px_table.specs.Tables.{rows_of}

read-map : {X Y : Type 0} (f : X → Y) (xs : List X) (k : ℕ) (x : X) → slice_index_or (map f xs) k (f x) ≡ f (slice_index_or xs k x)
read-map f [] k x = refl
read-map f (z ∷ xs) zero x = refl
read-map f (z ∷ xs) (suc k) x = read-map f xs k x

any-to_map : {X Y : Type 0} (f : X → Y) (P : Y → Type 0) (xs : List X) → Any (λ x. P (f x)) xs → Any P (map f xs)
any-to_map f P xs has = (has.0, f has.1, omega (arith, has.2, length-map xs f), read-map f xs has.0 has.1 ∙ ap f has.3, has.4)

any-from_map : {X Y : Type 0} (f : X → Y) (P : Y → Type 0) (xs : List X) (k : ℕ) (y : Y) → k < length (map f xs)
    → slice_index_or (map f xs) k y ≡ y → P y → Any (λ x. P (f x)) xs
any-from_map f P [] k y below at holds = absurd (omega (arith, below))
any-from_map f P (x ∷ xs) zero y below at holds = (0, x, omega arith, refl, subst P (sym at) holds)
any-from_map f P (x ∷ xs) (suc k) y below at holds =
    let later = any-from_map f P xs k y (omega (arith, below)) at holds in
    (suc later.0, later.1, omega (arith, later.2), later.3, later.4)

abbrev IsHigh : Derivation → Type 0
IsHigh d = 56 < height d

abbrev HasHigh : List Proof → Type 0
HasHigh row = Any (λ (p : Proof). IsHigh (derivation_of p)) row

pub high_rows : (rows : List (List Proof)) → Any HasHigh rows ↔ Any (Any IsHigh) (rows_of rows)
high_rows rows = (
  λ has. any-to_map (map derivation_of) (Any IsHigh) rows (has.0, has.1, has.2, has.3, any-to_map derivation_of IsHigh has.1 has.4),
  λ has.
      let row = any-from_map (map derivation_of) (Any IsHigh) rows has.0 has.1 has.2 has.3 has.4 in
      (row.0, row.1, row.2, row.3, any-from_map derivation_of IsHigh row.1 row.4.0 row.4.1 row.4.2 row.4.3 row.4.4),
)
