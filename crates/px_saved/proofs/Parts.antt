-- The parts of proofs are read as these proofs, and are whole; the heights that are found on them are the proofs' heights.
use Rattle.std.specs.Prelude.{max, ◌-◌}
use Rattle.px_proof.specs.Derivation.{Derivation, Derivations, fact, ancestor, gap, open_place, none, also, derivations, height, greatest_height}
use Rattle.px_proof.specs.Derivation as derivation
use Rattle.px_printer.specs.Blocks.{count_of}
use Rattle.px_script.specs.Items.{owed, are_proofs}
use Rattle.px_script.specs.Declarations.{proofs_read, table_variables, table_term}
use Rattle.px_script.specs.Faults.{heights_of, highest}
use Rattle.px_script.proofs.Common.{◌≡◌, ℕ, zero, suc, ◌+◌, ◌≤◌, ◌==◌, true, List, [], ◌∷◌, ◌++◌, map, length, take, drop, refl, sym, ap, ◌∙◌, arith, append_assoc, append-nil, fold, All, All-head, All-tail, NameLists, Declared, atom_of, Part}
use Rattle.px_saved.proofs.Written.{written_atom, written_term, written_parts, all_written_parts}

-- ---- lists of proofs

abbrev pub listed : Derivations → List Derivation
listed none = []
listed (also d ds) = d ∷ listed ds

listed-back : (ds : Derivations) → derivations (listed ds) ≡ ds
listed-back none = refl
listed-back (also d ds) = ap (also d) (listed-back ds)

back-listed : (ds : List Derivation) → listed (derivations ds) ≡ ds
back-listed [] = refl
back-listed (d ∷ ds) = ap (λ l. d ∷ l) (back-listed ds)

-- as many as there are, and the rest
taken : {A : Type 0} (xs ys : List A) (n : ℕ) → n ≡ length xs → (take n (xs ++ ys) ≡ xs) × (drop n (xs ++ ys) ≡ ys)
taken [] ys zero e = (refl, refl)
taken [] ys (suc n) e = absurd (omega (arith, e))
taken (x ∷ xs) ys zero e = absurd (omega (arith, e))
taken (x ∷ xs) ys (suc n) e = let rest = taken xs ys n (omega (arith, e)) in (ap (λ l. x ∷ l) rest.0, rest.1)

count-listed : (ds : Derivations) → count_of ds ≡ length (listed ds)
count-listed none = refl
count-listed (also d ds) = let rest = count-listed ds in omega (arith, rest)

abbrev all_heights : Derivations → List ℕ
all_heights none = []
all_heights (also d ds) = height d ∷ all_heights ds

count-heights : (ds : Derivations) → count_of ds ≡ length (all_heights ds)
count-heights none = refl
count-heights (also d ds) = let rest = count-heights ds in omega (arith, rest)

highest-from : (a : ℕ) (ds : Derivations) → fold max a (all_heights ds) ≡ max a (greatest_height ds)
highest-from a none = omega arith
highest-from a (also d ds) = highest-from (max a (height d)) ds ∙ omega arith

highest-is : (ds : Derivations) → highest (all_heights ds) ≡ greatest_height ds
highest-is ds = highest-from 0 ds ∙ omega arith

module _ (names : NameLists) (params : ℕ) where
  abbrev parts : Derivation → List Part
  parts d = written_parts names params d

  abbrev all_parts : Derivations → List Part
  all_parts ds = all_written_parts names params ds

  -- no part of the proof is a gap or open
  abbrev mutual
    pub IsWhole : Derivation → Type 0
    IsWhole (fact leaf) = Unit {0}
    IsWhole (ancestor i) = Unit {0}
    IsWhole (derivation.step clause theta place ds) = AreWhole ds
    IsWhole (gap atom) = ⊥
    IsWhole open_place = ⊥

    pub AreWhole : Derivations → Type 0
    AreWhole none = Unit {0}
    AreWhole (also d ds) = IsWhole d × AreWhole ds

  -- ---- reading

  module _ (x : Declared) where
    -- what stands in the proof is read back
    abbrev mutual
      pub ProofReads : Derivation → Type 0
      ProofReads (fact leaf) = atom_of x (table_variables x) (written_atom names params leaf.atom) ≡ leaf.atom
      ProofReads (ancestor i) = Unit {0}
      ProofReads (derivation.step clause theta place ds) =
          (map (table_term x) (map (written_term names params) theta) ≡ theta) × ProofsRead ds
      ProofReads (gap atom) = ⊥
      ProofReads open_place = ⊥

      pub ProofsRead : Derivations → Type 0
      ProofsRead none = Unit {0}
      ProofsRead (also d ds) = ProofReads d × ProofsRead ds

    mutual
      proof-back : (d : Derivation) (more : List Part) → ProofReads d → proofs_read x (parts d ++ more) ≡ d ∷ proofs_read x more
      proof-back (fact leaf) more reads =
          ap (λ a. fact (record { column = leaf.column; index = leaf.index; atom = a }) ∷ proofs_read x more) reads
      proof-back (ancestor i) more reads = refl
      proof-back (derivation.step clause theta place ds) more reads =
          let inner = all-proofs-back ds more reads.1 in
          let split = taken (listed ds) (proofs_read x more) (count_of ds) (count-listed ds) in
          let prefix : derivations (take (count_of ds) (proofs_read x (all_parts ds ++ more))) ≡ ds =
          ap (λ l. derivations (take (count_of ds) l)) inner ∙ ap derivations split.0 ∙ listed-back ds in
          let back : drop (count_of ds) (proofs_read x (all_parts ds ++ more)) ≡ proofs_read x more =
          ap (drop (count_of ds)) inner ∙ split.1 in
          λ i. derivation.step clause (reads.0 i) place (prefix i) ∷ back i
      proof-back (gap atom) more reads = absurd reads
      proof-back open_place more reads = absurd reads

      all-proofs-back : (ds : Derivations) (more : List Part) → ProofsRead ds
          → proofs_read x (all_parts ds ++ more) ≡ listed ds ++ proofs_read x more
      all-proofs-back none more reads = refl
      all-proofs-back (also d ds) more reads =
          ap (proofs_read x) (append_assoc (parts d) (all_parts ds) more) ∙ proof-back d (all_parts ds ++ more) reads.0
          ∙ ap (λ l. d ∷ l) (all-proofs-back ds more reads.1)

    -- the parts of a row are read as the row
    pub row-back : (row : List Derivation) → ProofsRead (derivations row) → proofs_read x (all_parts (derivations row)) ≡ row
    row-back row reads = ap (proofs_read x) (sym (append-nil (all_parts (derivations row))))
        ∙ all-proofs-back (derivations row) [] reads ∙ append-nil (listed (derivations row)) ∙ back-listed row

  -- ---- heights

  mutual
    height-back : (d : Derivation) (more : List Part) → IsWhole d → heights_of (parts d ++ more) ≡ height d ∷ heights_of more
    height-back (fact leaf) more whole = refl
    height-back (ancestor i) more whole = refl
    height-back (derivation.step clause theta place ds) more whole =
        let inner = all-heights-back ds more whole in
        let split = taken (all_heights ds) (heights_of more) (count_of ds) (count-heights ds) in
        let prefix : highest (take (count_of ds) (heights_of (all_parts ds ++ more))) ≡ greatest_height ds =
        ap (λ l. highest (take (count_of ds) l)) inner ∙ ap highest split.0 ∙ highest-is ds in
        let back : drop (count_of ds) (heights_of (all_parts ds ++ more)) ≡ heights_of more =
        ap (drop (count_of ds)) inner ∙ split.1 in
        λ i. (1 + prefix i) ∷ back i
    height-back (gap atom) more whole = absurd whole
    height-back open_place more whole = absurd whole

    all-heights-back : (ds : Derivations) (more : List Part) → AreWhole ds
        → heights_of (all_parts ds ++ more) ≡ all_heights ds ++ heights_of more
    all-heights-back none more whole = refl
    all-heights-back (also d ds) more whole =
        ap heights_of (append_assoc (parts d) (all_parts ds) more) ∙ height-back d (all_parts ds ++ more) whole.0
        ∙ ap (λ l. height d ∷ l) (all-heights-back ds more whole.1)

  row-high : (row : List Derivation) → All (λ d. height d ≤ 56) row → greatest_height (derivations row) ≤ 56
  row-high [] low = omega arith
  row-high (d ∷ row) low = let one = All-head (λ (y : Derivation). height y ≤ 56) d row low in
      let more = row-high row (All-tail (λ (y : Derivation). height y ≤ 56) d row low) in omega (arith, one, more)

  -- no height of a row is found greater than 56
  pub row-low : (row : List Derivation) → AreWhole (derivations row) → All (λ d. height d ≤ 56) row
      → highest (heights_of (all_parts (derivations row))) ≤ 56
  row-low row whole low =
      let heights : heights_of (all_parts (derivations row)) ≡ all_heights (derivations row) =
      ap heights_of (sym (append-nil (all_parts (derivations row)))) ∙ all-heights-back (derivations row) [] whole
      ∙ append-nil (all_heights (derivations row)) in
      let greatest_is = ap highest heights ∙ highest-is (derivations row) in let high = row-high row low in omega (arith, greatest_is, high)

  -- ---- whole proofs

  mutual
    owed-less : (n : ℕ) (d : Derivation) (more : List Part) → IsWhole d → fold owed n (parts d ++ more) ≡ fold owed (n - 1) more
    owed-less n (fact leaf) more whole = refl
    owed-less n (ancestor i) more whole = refl
    owed-less n (derivation.step clause theta place ds) more whole = all-owed-less (n - 1) ds more whole
    owed-less n (gap atom) more whole = absurd whole
    owed-less n open_place more whole = absurd whole

    all-owed-less : (n : ℕ) (ds : Derivations) (more : List Part) → AreWhole ds
        → fold owed (n + count_of ds) (all_parts ds ++ more) ≡ fold owed n more
    all-owed-less n none more whole = ap (λ k. fold owed k more) (omega arith)
    all-owed-less n (also d ds) more whole =
        ap (fold owed (n + suc (count_of ds))) (append_assoc (parts d) (all_parts ds) more)
        ∙ owed-less (n + suc (count_of ds)) d (all_parts ds ++ more) whole.0
        ∙ ap (λ k. fold owed k (all_parts ds ++ more)) (omega arith) ∙ all-owed-less n ds more whole.1

  row-owed : (row : List Derivation) → AreWhole (derivations row) → fold owed 0 (all_parts (derivations row)) ≡ 0
  row-owed [] whole = refl
  row-owed (d ∷ row) whole = owed-less 0 d (all_parts (derivations row)) whole.0
      ∙ ap (λ k. fold owed k (all_parts (derivations row))) (omega arith)
      ∙ row-owed row whole.1

  -- the parts of a row are whole proofs
  pub row-whole : (row : List Derivation) → AreWhole (derivations row) → are_proofs (all_parts (derivations row)) ≡ true
  row-whole row whole = ap (λ n. n == 0) (row-owed row whole)
