-- Proofs are read as they are written.
use Rattle.std.proofs.Common.{◌≡◌, ◌≤◌, ◌<◌, ◌-◌, ℕ, zero, suc, true, List, [], ◌∷◌, ◌++◌, length, map, Some, None, refl, sym, ap, subst, ◌∙◌, append_assoc, arith, inl, inr}
use Rattle.std.specs.Prelude.{codes}
use Rattle.std.specs.List.{flat_map, AllByRecursion}
use Rattle.std.proofs.lemmas.List.Elements.{All-from_recursion, recursion_from_All}
use Rattle.std.proofs.lemmas.Option.{same_Some}
use Rattle.px_terms.specs.declared.atom.Atom.{Atom}
use Rattle.px_terms.specs.declared.term.Term.{Term}
use Rattle.px_terms.specs.Validity.{IsPatternTermOf}
use Rattle.px_proof.specs.declared.proof.Leaf.{Leaf}
use Rattle.px_proof.specs.declared.proof.Proof.{Proof}
use Rattle.px_proof.specs.declared.proof.Proof.TheVariants.{Fact, Anc}
use Rattle.px_proof.specs.Derivation.{Derivation, Derivations, derivations, fact, ancestor, step, gap, open_place, none, also, height, greatest_height}
use Rattle.px_proof.specs.LayerLaws.{HasNoOpenPlace, HaveNoOpenPlace, comes_back, derivation_of-ancestor, derivation_of-fact, derivation_of-step, derivations-proofs_of, proof_of, proofs_of}
use Rattle.px_proof.specs.ProofTerm.{derivation_of}
use Rattle.px_cert.specs.declared.draft.Draft.{Draft}
use Rattle.px_table.specs.Deciding.{clause_at}
use Rattle.px_cert.specs.ClaimRanges.{AreAtMost, AreProofsInRange, AreTableTerms, IsProofInRange, IsRowProof, part_count}
use Rattle.px_cert.specs.Drafts.{language}
use Rattle.px_cert.specs.Limits.{greatest_written_height, most_atoms, most_places, table_variables}
use Rattle.px_cert.specs.Lines.{atom_item, derivation_item, derivation_items, list_item, number_item, proof_item, term_item}
use Rattle.px_cert.specs.Reading.{◌>>=◌, Parsed, Reader, after_text, ancestor_at, atom_at, fact_at, leaf_of_parts, many_at, number_at, pair_at, place_at, proof_at, row_items, step_at, step_of_parts, term_at, terms_at}
use Rattle.px_cert.proofs.Digits.{count_exact, number_exact}
use Rattle.px_cert.proofs.Exact.{IsExact, StartsWell, after_takes, bind_some, many_exact, many_start, pair_exact, stops}
use Rattle.px_cert.proofs.Items.{IsAtomFor, IsSmall, IsTermFor, atom_exact, atom_starts, chosen_is, each_there, list_exact, pattern_atom_back, pattern_atom_there, pattern_back, pattern_there, term_exact, term_starts}

-- ---- the items of parts

pub parts_item : (ps : List Proof) → derivation_items (derivations (map derivation_of ps)) ≡ flat_map proof_item ps
parts_item [] = refl
parts_item (p ∷ ps) = ap (λ (r : List ℕ). proof_item p ++ r) (parts_item ps)

-- a proof of at most so many levels, in range
abbrev pub IsLow : Draft → ℕ → Proof → Type 0
IsLow d levels p = (height (derivation_of p) ≤ levels) × IsProofInRange (language d) d.axioms (derivation_of p)

pub parts_low : (d : Draft) (levels : ℕ) (ps : List Proof) → AllByRecursion (IsLow d levels) ps
    → (greatest_height (derivations (map derivation_of ps)) ≤ levels) × AreProofsInRange (language d) d.axioms (derivations (map derivation_of ps))
parts_low d levels [] all = (omega arith, tt)
parts_low d levels (p ∷ ps) all =
    let rest = parts_low d levels ps all.1 in
    let first = all.0 in
    (omega (arith, first.0, rest.0), (first.1, rest.1))

pub parts_counted : (ps : List Proof) → part_count (derivations (map derivation_of ps)) ≡ length ps
parts_counted [] = refl
parts_counted (p ∷ ps) = let r = parts_counted ps in omega (arith, r)

-- no proof begins with a digit
pub proof_starts : StartsWell proof_item
proof_starts = record { starts = λ p rest stop. each (derivation_of p) rest stop }
  where
    each : (d : Derivation) (rest : List ℕ) → stops rest ≡ true → stops (derivation_item d ++ rest) ≡ true
    each (fact leaf) rest stop = refl
    each (ancestor i) rest stop = refl
    each (step number theta place parts) rest stop = refl
    each (gap atom) rest stop = stop
    each open_place rest stop = stop

-- ---- the three forms, behind their letters

-- the items of a fact, an ancestor and a step
abbrev fact_items : ℕ × (ℕ × Atom) → List ℕ
fact_items q = number_item q.0 ++ (number_item q.1.0 ++ atom_item q.1.1)

-- each proof is a finished one
mutual
  in_range_whole : (d : Draft) (e : Derivation) → IsProofInRange (language d) d.axioms e → HasNoOpenPlace e
  in_range_whole d (fact leaf) is = tt
  in_range_whole d (ancestor i) is = tt
  in_range_whole d (step number theta place parts) is = parts_whole d parts is.5
  in_range_whole d (gap atom) is = absurd is
  in_range_whole d open_place is = absurd is

  parts_whole : (d : Draft) (es : Derivations) → AreProofsInRange (language d) d.axioms es → HaveNoOpenPlace es
  parts_whole d none is = tt
  parts_whole d (also e es) is = (in_range_whole d e is.0, parts_whole d es is.1)

has_level : (e : Derivation) → 1 ≤ height e
has_level (fact leaf) = omega arith
has_level (ancestor i) = omega arith
has_level (step number theta place parts) = omega arith
has_level (gap atom) = omega arith
has_level open_place = omega arith

module _ (d : Draft) (small : IsSmall d) where
  abbrev fact_reader : Reader (ℕ × (ℕ × Atom))
  fact_reader = pair_at place_at (λ column. pair_at place_at (λ index. atom_at d table_variables true))

  abbrev IsFactRead : ℕ × (ℕ × Atom) → Type 0
  IsFactRead q = (q.0 ≤ most_places) × ((q.1.0 ≤ most_places) × IsAtomFor d table_variables true q.1.1)

  -- what is read of a fact is as `fact_at` makes a leaf of it
  fact_parts : IsExact fact_reader fact_items IsFactRead
  fact_parts =
      pair_exact place_at number_item (λ n. n ≤ most_places) (count_exact most_places (omega arith))
      (λ column. pair_at place_at (λ index. atom_at d table_variables true)) (λ column q. number_item q.0 ++ atom_item q.1)
      (λ column q. (q.0 ≤ most_places) × IsAtomFor d table_variables true q.1)
      (λ column is. pair_exact place_at number_item (λ n. n ≤ most_places) (count_exact most_places (omega arith))
      (λ index. atom_at d table_variables true) (λ index. atom_item) (λ index. IsAtomFor d table_variables true)
      (λ index below. atom_exact d small table_variables (omega arith) true) (λ index. atom_starts))
      (λ column. record { starts = λ q rest stop. refl })

  -- ---- the parts of a step

  abbrev pub IsTableTerm : Term → Type 0
  IsTableTerm = IsTermFor (length d.objects) table_variables true

  table_term : IsExact (term_at (length d.objects) table_variables true) term_item IsTableTerm
  table_term = term_exact (length d.objects) table_variables true small.objects (omega arith)

  -- so many terms, and all that are good
  abbrev pub AreTermsRead : ℕ → List Term → Type 0
  AreTermsRead count terms = (length terms ≡ count) × AllByRecursion IsTableTerm terms

  pub terms_exact : (count : ℕ) → IsExact (terms_at d count) (flat_map term_item) (AreTermsRead count)
  terms_exact count = many_exact _ term_item _ table_term term_starts count

  pub terms_start : StartsWell (flat_map term_item)
  terms_start = many_start _ term_item _ table_term term_starts

  pub terms_there : (terms : List Term) → AllByRecursion IsTableTerm terms → AreTableTerms (language d) terms
  terms_there terms all =
      All-from_recursion _ terms
      (each_there d table_variables IsTableTerm (IsPatternTermOf (language d) table_variables) (pattern_there d table_variables) terms all)

  pub terms_back : (terms : List Term) → AreTableTerms (language d) terms → AllByRecursion IsTableTerm terms
  terms_back terms all =
      each_there d table_variables (IsPatternTermOf (language d) table_variables) IsTableTerm (pattern_back d table_variables) terms (recursion_from_All _ terms all)

  module _ (levels : ℕ) (part : IsExact (proof_at d levels) proof_item (IsLow d levels)) where
    -- so many parts
    abbrev ArePartsRead : ℕ → List Proof → Type 0
    ArePartsRead count proofs = (length proofs ≡ count) × AllByRecursion (IsLow d levels) proofs

    abbrev parts_count : ℕ → ℕ
    parts_count number = length (clause_at d.axioms number).lits - 1

    abbrev variable_count_is : ℕ → ℕ
    variable_count_is number = (clause_at d.axioms number).variable_count

    parts_start : StartsWell (flat_map proof_item)
    parts_start = many_start _ proof_item _ part proof_starts

    -- the terms and the parts
    abbrev choices_reader : ℕ → Reader (List Term × List Proof)
    choices_reader number = pair_at (terms_at d (variable_count_is number)) (λ theta. many_at (proof_at d levels) (parts_count number))

    abbrev choices_item : List Term × List Proof → List ℕ
    choices_item q = flat_map term_item q.0 ++ flat_map proof_item q.1

    abbrev AreChoices : ℕ → List Term × List Proof → Type 0
    AreChoices number q = AreTermsRead (variable_count_is number) q.0 × ArePartsRead (parts_count number) q.1

    choices_exact : (number : ℕ) → IsExact (choices_reader number) choices_item (AreChoices number)
    choices_exact number =
        pair_exact (terms_at d (variable_count_is number)) (flat_map term_item) (AreTermsRead (variable_count_is number)) (terms_exact (variable_count_is number))
        (λ theta. many_at (proof_at d levels) (parts_count number)) (λ theta. flat_map proof_item)
        (λ theta. ArePartsRead (parts_count number)) (λ theta is. many_exact _ proof_item _ part proof_starts (parts_count number))
        (λ theta. parts_start)

    choices_start : StartsWell choices_item
    choices_start = record {
      starts = λ q rest stop.
          ap stops (append_assoc (flat_map term_item q.0) (flat_map proof_item q.1) rest)
          ∙ terms_start.starts q.0 (flat_map proof_item q.1 ++ rest) (parts_start.starts q.1 rest stop);
    }

    -- the place, and these
    abbrev placed_item : ℕ × (List Term × List Proof) → List ℕ
    placed_item q = number_item q.0 ++ choices_item q.1

    abbrev IsPlaced : ℕ → ℕ × (List Term × List Proof) → Type 0
    IsPlaced number q = (q.0 ≤ most_places) × AreChoices number q.1

    placed_exact : (number : ℕ) → IsExact (pair_at place_at (λ place. choices_reader number)) placed_item (IsPlaced number)
    placed_exact number =
        pair_exact place_at number_item (λ n. n ≤ most_places) (count_exact most_places (omega arith)) (λ place. choices_reader number)
        (λ place. choices_item) (λ place. AreChoices number) (λ place is. choices_exact number) (λ place. choices_start)

    -- the number of the axiom, and these
    abbrev step_reader : Reader (ℕ × (ℕ × (List Term × List Proof)))
    step_reader = pair_at (number_at (length d.axioms)) (λ number. pair_at place_at (λ place. choices_reader number))

    abbrev IsStepRead : ℕ × (ℕ × (List Term × List Proof)) → Type 0
    IsStepRead q = (q.0 < length d.axioms) × IsPlaced q.0 q.1

    step_parts : IsExact step_reader (λ q. number_item q.0 ++ placed_item q.1) IsStepRead
    step_parts =
        pair_exact (number_at (length d.axioms)) number_item (λ n. n < length d.axioms) (number_exact (length d.axioms) small.axioms)
        (λ number. pair_at place_at (λ place. choices_reader number)) (λ number. placed_item) IsPlaced
        (λ number below. placed_exact number) (λ number. record { starts = λ q rest stop. refl })

    -- ---- what is read is written so

    abbrev IsForm : List ℕ → Derivation → List ℕ → Type 0
    IsForm bytes e rest = (bytes ≡ derivation_item e ++ rest) × ((height e ≤ suc levels) × IsProofInRange (language d) d.axioms e)

    fact_taken : (bytes left : List ℕ) (p : Proof) (rest : List ℕ) → after_text (codes " f") bytes ≡ Some left
        → fact_at d left ≡ Some (p, rest) → IsForm bytes (derivation_of p) rest
    unfolding fact_at
    fact_taken bytes left p rest at e =
        let a = bind_some (fact_reader left) (λ x. Some (leaf_of_parts x.0, x.1)) (p, rest) e in
        let t = fact_parts.takes left a.0.0 a.0.1 a.1 in
        let leaf : Leaf = record { column = a.0.0.0; index = a.0.0.1.0; atom = a.0.0.1.1 } in
        let form : IsForm bytes (fact leaf) a.0.1 = (
          after_takes (codes " f") bytes left at ∙ ap (λ (r : List ℕ). codes " f" ++ r) t.0,
          (omega arith, (t.1.0, t.1.1.0, pattern_atom_there d table_variables leaf.atom t.1.1.1)),
        ) in
        subst (λ (q : Proof × List ℕ). IsForm bytes (derivation_of q.0) q.1) (same_Some (Fact leaf, a.0.1) (p, rest) a.2)
        (subst (λ (f : Derivation). IsForm bytes f a.0.1) (sym (derivation_of-fact leaf)) form)

    ancestor_taken : (bytes left : List ℕ) (p : Proof) (rest : List ℕ) → after_text (codes " a") bytes ≡ Some left
        → ancestor_at left ≡ Some (p, rest) → IsForm bytes (derivation_of p) rest
    unfolding ancestor_at
    ancestor_taken bytes left p rest at e =
        let a = bind_some (place_at left) (λ x. Some (Anc x.0, x.1)) (p, rest) e in
        let t = (count_exact most_places (omega arith)).takes left a.0.0 a.0.1 a.1 in
        let form : IsForm bytes (ancestor a.0.0) a.0.1 = (
          after_takes (codes " a") bytes left at ∙ ap (λ (r : List ℕ). codes " a" ++ r) t.0,
          (omega arith, t.1),
        ) in
        subst (λ (q : Proof × List ℕ). IsForm bytes (derivation_of q.0) q.1) (same_Some (Anc a.0.0, a.0.1) (p, rest) a.2)
        (subst (λ (f : Derivation). IsForm bytes f a.0.1) (sym (derivation_of-ancestor a.0.0)) form)

    step_form : (bytes left : List ℕ) (q : ℕ × (ℕ × (List Term × List Proof))) (rest : List ℕ) → after_text (codes " s") bytes ≡ Some left
        → (left ≡ (number_item q.0 ++ placed_item q.1) ++ rest) → IsStepRead q
        → IsForm bytes (step q.0 q.1.1.0 q.1.0 (derivations (map derivation_of q.1.1.1))) rest
    step_form bytes left q rest at text is =
        let low = parts_low d levels q.1.1.1 is.1.1.1.1 in
        let high = low.0 in
        let some = small.literals q.0 is.0 in
        let counted = parts_counted q.1.1.1 in
        let count = is.1.1.1.0 in (
          after_takes (codes " s") bytes left at ∙ ap (λ (r : List ℕ). codes " s" ++ r)
              (text ∙ ap (λ (r : List ℕ). (number_item q.0 ++ (number_item q.1.0 ++ (flat_map term_item q.1.1.0 ++ r))) ++ rest)
              (sym (parts_item q.1.1.1))),
          (
            omega (arith, high),
            (is.0, is.1.0, is.1.1.0.0, terms_there q.1.1.0 is.1.1.0.1, omega (arith, some, counted, count), low.1),
          ),
        )

    step_taken : (bytes left : List ℕ) (p : Proof) (rest : List ℕ) → after_text (codes " s") bytes ≡ Some left
        → step_at d (proof_at d levels) left ≡ Some (p, rest) → IsForm bytes (derivation_of p) rest
    unfolding step_at
    step_taken bytes left p rest at e =
        let a = bind_some (step_reader left) (λ x. Some (step_of_parts x.0, x.1)) (p, rest) e in
        let t = step_parts.takes left a.0.0 a.0.1 a.1 in
        subst (λ (q : Proof × List ℕ). IsForm bytes (derivation_of q.0) q.1) (same_Some (step_of_parts a.0.0, a.0.1) (p, rest) a.2)
        (subst (λ (f : Derivation). IsForm bytes f a.0.1)
        (sym (derivation_of-step a.0.0.0 a.0.0.1.1.0 a.0.0.1.0 a.0.0.1.1.1)) (step_form bytes left a.0.0 a.0.1 at t.0 t.1))

    level_taken : (bytes : List ℕ) (p : Proof) (rest : List ℕ) → proof_at d (suc levels) bytes ≡ Some (p, rest)
        → IsForm bytes (derivation_of p) rest
    unfolding proof_at
    level_taken bytes p rest e = elim (chosen_is (after_text (codes " f") bytes) (fact_at d) _ (p, rest) e) [
      | inl f ↦ fact_taken bytes f.0 p rest f.1 f.2
      | inr more ↦ elim (chosen_is (after_text (codes " a") bytes) ancestor_at _ (p, rest) more.1) [
        | inl a ↦ ancestor_taken bytes a.0 p rest a.1 a.2
        | inr others ↦ elim (chosen_is (after_text (codes " s") bytes) (step_at d (proof_at d levels)) None (p, rest) others.1) [
          | inl s ↦ step_taken bytes s.0 p rest s.1 s.2
          | inr never ↦ let no : None ≡ Some (p, rest) = never.1 in absurd (cc)
        ]
      ]
    ]

    -- ---- what is written is read

    parts_split : (ps : List Proof) → greatest_height (derivations (map derivation_of ps)) ≤ levels
        → AreProofsInRange (language d) d.axioms (derivations (map derivation_of ps)) → AllByRecursion (IsLow d levels) ps
    parts_split [] low is = tt
    parts_split (p ∷ ps) low is = ((omega (arith, low), is.0), parts_split ps (omega (arith, low)) is.1)

    form_again : (f : Derivation) (rest : List ℕ) → height f ≤ suc levels → IsProofInRange (language d) d.axioms f → stops rest ≡ true
        → proof_at d (suc levels) (derivation_item f ++ rest) ≡ Some (proof_of f, rest)
    unfolding proof_at fact_at ancestor_at step_at
    form_again (fact leaf) rest low is stop =
        ap (λ (o : Parsed (ℕ × (ℕ × Atom))). o >>= λ x. Some (leaf_of_parts x.0, x.1))
        (fact_parts.again (leaf.column, (leaf.index, leaf.atom)) rest
        (is.0, (is.1, pattern_atom_back d table_variables leaf.atom is.2)) stop)
    form_again (ancestor i) rest low is stop =
        ap (λ (o : Parsed ℕ). o >>= λ x. Some (Anc x.0, x.1)) ((count_exact most_places (omega arith)).again i rest is stop)
    form_again (step number theta place parts) rest low is stop =
        let same = derivations-proofs_of parts (parts_whole d parts is.5) in
        let text : derivation_items parts ≡ flat_map proof_item (proofs_of parts) =
        sym (ap derivation_items same) ∙ parts_item (proofs_of parts) in
        let high : greatest_height parts ≤ levels = omega (arith, low) in
        let ranged = subst (λ (es : Derivations). (greatest_height es ≤ levels) × AreProofsInRange (language d) d.axioms es) (sym same) (high, is.5) in
        let counted : part_count parts ≡ length (proofs_of parts) = sym (ap part_count same) ∙ parts_counted (proofs_of parts) in
        let whole = is.4 in
        let count : length (proofs_of parts) ≡ parts_count number = omega (arith, counted, whole) in
        ap (λ (r : List ℕ). step_at d (proof_at d levels)
        ((number_item number ++ (number_item place ++ (flat_map term_item theta ++ r))) ++ rest)) text
        ∙ ap (λ (o : Parsed (ℕ × (ℕ × (List Term × List Proof)))). o >>= λ x. Some (step_of_parts x.0, x.1))
        (step_parts.again (number, (place, (theta, proofs_of parts))) rest
        (is.0, (is.1, ((is.2, terms_back theta is.3), (count, parts_split (proofs_of parts) ranged.0 ranged.1)))) stop)
    form_again (gap atom) rest low is stop = absurd is
    form_again open_place rest low is stop = absurd is

    level_exact : IsExact (proof_at d (suc levels)) proof_item (IsLow d (suc levels))
    level_exact = record {
      takes = level_taken;
      again = λ p rest is stop.
          form_again (derivation_of p) rest is.0 is.1 stop ∙ ap (λ (q : Proof). Some (q, rest)) (comes_back p);
    }

  pub proof_exact : (levels : ℕ) → IsExact (proof_at d levels) proof_item (IsLow d levels)
  unfolding proof_at
  proof_exact zero = record {
    takes = λ bytes p rest e. let no : None ≡ Some (p, rest) = e in absurd (cc);
    again = λ p rest is stop. let low = is.0 in absurd (omega (arith, low, has_level (derivation_of p)));
  }
  proof_exact (suc levels) = level_exact levels (proof_exact levels)

  -- the proofs of a row
  pub row_exact : IsExact (row_items d) (list_item proof_item) (AreAtMost most_atoms (IsRowProof (language d) d.axioms))
  row_exact =
      list_exact (proof_at d greatest_written_height) proof_item (IsLow d greatest_written_height) (proof_exact greatest_written_height)
      proof_starts most_atoms (omega arith)
