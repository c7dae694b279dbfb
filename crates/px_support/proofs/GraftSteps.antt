-- What the code does to put a learned row onto first proofs, loop by loop.
use Rattle.std.specs.Prelude.{◌≡◌, ◌≢◌, ◌⊎◌, ◌≤◌, ◌<◌, ◌+◌, false, ℕ, Some, List, [], ◌∷◌, ◌++◌, length, map, slice_get, slice_index_or, take, All, Contains, Result, Ok, Err, IfOk}
use Rattle.std.specs.List.{AllZip}
use Rattle.std.proofs.Common.{zero, suc, refl, sym, ap, ◌∙◌, subst, inl, inr, arith}
use Rattle.std.proofs.lemmas.List.{length-map, map-append, take_more}
use Rattle.std.proofs.lemmas.Option.{slice_get_read}
use Rattle.px_base.specs.Answers.{both_answers, some_same}
use Rattle.px_base.specs.declared.no_memory.NoMemory.{NoMemory}
use Rattle.px_terms.specs.declared.atom.Atom.{Atom}
use Rattle.px_terms.specs.Order.{atom_eq}
use Rattle.px_terms.specs.OrderLaws.{atom_eq-decides}
use Rattle.px_terms.specs.Substitution.{substitute_atom}
use Rattle.px_terms.specs.Validity.{IsAtomOf, IsValid}
use Rattle.px_proof.specs.declared.proof.Leaf.{Leaf}
use Rattle.px_proof.specs.declared.proof.Proof.{Proof}
use Rattle.px_proof.specs.Derivation.{Derivation, derivations, leaves_of}
use Rattle.px_proof.specs.Grafting.{first_leaves, grafted}
use Rattle.px_proof.specs.PlaceLaws.{slice_get-map}
use Rattle.px_proof.specs.ProofTerm.{derivation_of}
use Rattle.px_question.proofs.FirstOfEachLaws.{first-is_of_each}
use Rattle.px_question.specs.Answers.{IsFirst, object_terms}
use Rattle.px_question.specs.FirstOfEach.{AreFirstProofs, IsFirstProof}
use Rattle.px_question.specs.Rows.{IsAnswerProof}
use Rattle.px_question.specs.Settings.{Setting, setting_of}
use Rattle.px_ends.specs.Made.{IsGraft, IsPart, IsSourced}
use Rattle.px_support.specs.declared.grafts.Graft.{Graft}
use Rattle.px_support.specs.Grafted.{AreFirsts, AreParts, IsGraftBy, IsPartFor}
use Rattle.px_support.specs.Sources.{HasFirstLeaves}
use Rattle.px_support.proofs.RowLeaves.{answer-proofs}
use Rattle.px_support.proofs.SourceLaws.{first-leaves, first_leaves-at}

-- ---- lists

pub mapped-more : {A B : Type 0} (f : A → B) (xs : List A) (i : ℕ) (x : A) → i < length xs → x ≡ slice_index_or xs i x
    → map f (take (i + 1) xs) ≡ map f (take i xs) ++ f x ∷ []
mapped-more f xs i x below at =
    ap (map f) (take_more xs i x below ∙ ap (λ y. take i xs ++ y ∷ []) (sym at)) ∙ map-append f (take i xs) (x ∷ [])

pub mapped-got : {A B : Type 0} (f : A → B) (xs : List A) (i : ℕ) (x : A) → slice_get xs i ≡ Some x
    → map f (take (i + 1) xs) ≡ map f (take i xs) ++ f x ∷ []
mapped-got f xs i x at =
    let number : i + 1 ≡ suc i = omega arith in
    ap (λ n. map f (take n xs)) number ∙ ap (map f) (taken-got xs i x at) ∙ map-append f (take i xs) (x ∷ [])
  where
    taken-got : {A : Type 0} (xs : List A) (i : ℕ) (x : A) → slice_get xs i ≡ Some x → take (suc i) xs ≡ take i xs ++ x ∷ []
    taken-got [] i x at = absurd (cc)
    taken-got (y ∷ xs) zero x at = let same : y ≡ x = cc in ap (λ z. z ∷ []) same
    taken-got (y ∷ xs) (suc i) x at = ap (λ l. y ∷ l) (taken-got xs i x at)

pub taken-more : {A : Type 0} (xs : List A) (i : ℕ) (x : A) → i < length xs → x ≡ slice_index_or xs i x
    → take (i + 1) xs ≡ take i xs ++ x ∷ []
taken-more xs i x below at = take_more xs i x below ∙ ap (λ y. take i xs ++ y ∷ []) (sym at)

pub zip-length : {A B : Type 0} (R : A → B → Type 0) (xs : List A) (ys : List B) → AllZip R xs ys → length ys ≡ length xs
zip-length R [] [] all = refl
zip-length R [] (y ∷ ys) all = absurd all
zip-length R (x ∷ xs) [] all = absurd all
zip-length R (x ∷ xs) (y ∷ ys) all = ap suc (zip-length R xs ys all.1)

pub zip-each : {A B : Type 0} (R S : A → B → Type 0) → ((a : A) (b : B) → R a b → S a b) → (xs : List A) (ys : List B) → AllZip R xs ys
    → AllZip S xs ys
zip-each R S each [] [] all = tt
zip-each R S each [] (y ∷ ys) all = absurd all
zip-each R S each (x ∷ xs) [] all = absurd all
zip-each R S each (x ∷ xs) (y ∷ ys) all = (each x y all.0, zip-each R S each xs ys all.1)

-- ---- the place of an atom

-- the atom isn't among the first of the formula
abbrev pub NotBefore : List Atom → Atom → ℕ → Type 0
NotBefore formula atom place = (i : ℕ) → i < place → slice_get formula i ≢ Some atom

pub one_more_passed : (formula : List Atom) (atom : Atom) (place : ℕ) → slice_get formula place ≢ Some atom → NotBefore formula atom place
    → NotBefore formula atom (place + 1)
one_more_passed formula atom place differs before i below there = elim (here_or_before i place below) [
  | inl here ↦ differs (ap (slice_get formula) (sym here) ∙ there)
  | inr earlier ↦ before i earlier there
]
  where
    here_or_before : (a b : ℕ) → a < b + 1 → (a ≡ b) ⊎ (a < b)
    here_or_before a b h = grind arith

pub not-here : (formula : List Atom) (place : ℕ) (here atom : Atom) → place < length formula → here ≡ slice_index_or formula place here
    → atom_eq here atom ≡ false → slice_get formula place ≢ Some atom
not-here formula place here atom below is differ there =
    let same : here ≡ atom = some_same (sym (slice_get_read formula (length formula) place here refl below is) ∙ there) in
    both_answers (atom_eq here atom) differ ((atom_eq-decides here atom).1 same)

pub never_passed : (formula : List Atom) (atom : Atom) (place : ℕ) → length formula ≤ place → NotBefore formula atom place
    → ¬ Contains formula atom
never_passed formula atom place all before has =
    before has.0 (omega (arith, has.1, all)) (slice_get_read formula (length formula) has.0 atom refl has.1 (sym has.2))

pub get-below : {A : Type 0} (xs : List A) (k : ℕ) (x : A) → slice_get xs k ≡ Some x → k < length xs
get-below [] k x at = absurd (cc)
get-below (y ∷ xs) zero x at = omega arith
get-below (y ∷ xs) (suc k) x at = let r = get-below xs k x at in omega (arith, r)

-- ---- the proof at the place

pub part-within : (graft : Graft) (firsts : List Proof) (place : ℕ) (atom : Atom) → AreFirsts graft firsts
    → slice_get graft.formula.now place ≡ Some atom → place < length firsts
part-within graft firsts place atom are at = let below = get-below graft.formula.now place atom at in omega (arith, below, are.count)

pub part-first : (graft : Graft) (firsts : List Proof) (place : ℕ) (proof : Proof) → AreFirsts graft firsts → place < length firsts
    → proof ≡ slice_index_or firsts place proof → HasFirstLeaves (derivation_of proof)
part-first graft firsts place proof are below at = first_leaves-at firsts place proof below at are.leaves

pub if_part : (graft : Graft) (firsts : List Proof) (place : ℕ) (atom : Atom) (proof : Proof) (result : Result Proof NoMemory)
    → place < length firsts → proof ≡ slice_index_or firsts place proof → slice_get graft.formula.now place ≡ Some atom
    → IfOk result (λ part. IsSourced graft.problem.now graft.steps.now (derivation_of proof) (derivation_of part))
    → IfOk result (λ part. IsPartFor graft (map derivation_of firsts) atom (derivation_of part))
if_part graft firsts place atom proof (Ok part) below at there sourced = (
  place,
  derivation_of proof,
  there,
  slice_get-map derivation_of firsts place proof (slice_get_read firsts (length firsts) place proof refl below at),
  sourced,
)
if_part graft firsts place atom proof (Err e) below at there sourced = tt

-- ---- the graft

-- there are as many parts as leaves in column 0
pub parts-count : (graft : Graft) (firsts : List Derivation) (leaves : List Leaf) (parts : List Proof)
    → AreParts graft firsts leaves (map derivation_of parts) → length parts ≡ length leaves
parts-count graft firsts leaves parts are =
    sym (length-map parts derivation_of)
    ∙ zip-length (λ (leaf : Leaf) (part : Derivation). IsPartFor graft firsts leaf.atom part) leaves (map derivation_of parts) are

pub if_graft : (graft : Graft) (firsts : List Derivation) (d : Derivation) (parts : List Derivation) (result : Result Proof NoMemory)
    → AreParts graft firsts (first_leaves (leaves_of d)) parts
    → IfOk result (λ new. derivation_of new ≡ grafted graft.shift parts d)
    → IfOk result (λ new. IsGraftBy graft firsts d (derivation_of new))
if_graft graft firsts d parts (Ok new) are is = (parts, are, is)
if_graft graft firsts d parts (Err e) are is = tt

-- ---- parts that are first proofs

first-at : (s : Setting) (atoms : List Atom) (ds : List Derivation) → AreFirstProofs s atoms (derivations ds)
    → (k : ℕ) (atom : Atom) (d : Derivation) → slice_get atoms k ≡ Some atom → slice_get ds k ≡ Some d → IsFirstProof s atom d
first-at s [] ds all k atom d at_atom at_d = absurd (cc)
first-at s (a ∷ atoms) [] all k atom d at_atom at_d = absurd (cc)
first-at s (a ∷ atoms) (e ∷ ds) all zero atom d at_atom at_d =
    let atom_is : a ≡ atom = some_same at_atom in
    let d_is : e ≡ d = some_same at_d in
    subst (λ (x : Derivation). IsFirstProof s atom x) d_is (subst (λ (x : Atom). IsFirstProof s x e) atom_is all.0)
first-at s (a ∷ atoms) (e ∷ ds) all (suc k) atom d at_atom at_d = first-at s atoms ds all.1 k atom d at_atom at_d

no_numbers : (xs : List ℕ) → length xs ≡ 0 → xs ≡ []
no_numbers [] e = refl
no_numbers (x ∷ xs) e = absurd (omega (arith, e))

module _ (graft : Graft) (facts : List Atom) (objects : List ℕ) (proofs given : List Proof) (same : given ≡ proofs)
    (valid : IsValid graft.problem.now) (of : All (IsAtomOf graft.problem.now 0) graft.formula.now)
    (first : IsFirst (setting_of graft.problem.now facts) graft.formula.now 0 objects (derivations (map derivation_of proofs))) where
  each-first : AreFirstProofs (setting_of graft.problem.now facts) graft.formula.now (derivations (map derivation_of proofs))
  each-first =
      (first-is_of_each (setting_of graft.problem.now facts) graft.formula.now (derivations (map derivation_of proofs))).0
      (subst (λ (o : List ℕ). IsFirst (setting_of graft.problem.now facts) graft.formula.now 0 o (derivations (map derivation_of proofs)))
      (no_numbers objects first.finished.count) first)

  -- the answer has a proof for each of the initial facts
  pub are_firsts : AreFirsts graft given
  are_firsts = subst (AreFirsts graft) (sym same) record {
    count =
        sym (length-map proofs derivation_of)
        ∙ zip-length (IsAnswerProof graft.problem.now facts) (map (substitute_atom (object_terms objects)) graft.formula.now)
        (map derivation_of proofs) (answer-proofs graft.problem.now facts graft.formula.now 0 objects
        (map derivation_of proofs) valid of first.finished) ∙ length-map graft.formula.now (substitute_atom (object_terms objects));
    leaves = first-leaves graft.problem.now facts graft.formula.now 0 objects (map derivation_of proofs) valid of first;
  }

  part-is : (leaf : Leaf) (part : Derivation) → IsPartFor graft (map derivation_of proofs) leaf.atom part
      → IsPart graft.problem.now graft.steps.now facts leaf part
  part-is leaf part by = (
    by.1,
    first-at (setting_of graft.problem.now facts) graft.formula.now
        (map derivation_of proofs) each-first by.0 leaf.atom by.1 by.2 by.3,
    by.4,
  )

  graft-is : (d new : Derivation) → IsGraftBy graft (map derivation_of proofs) d new
      → IsGraft graft.problem.now graft.shift graft.steps.now facts d new
  graft-is d new by = (
    by.0,
    zip-each (λ (leaf : Leaf) (part : Derivation). IsPartFor graft (map derivation_of proofs) leaf.atom part)
        (IsPart graft.problem.now graft.steps.now facts) part-is (first_leaves (leaves_of d)) by.0 by.1,
    by.2,
  )

  -- so what is put onto its proofs is put onto the first ones
  pub if_grafted : (ds : List Derivation) (result : Result (List Proof) NoMemory)
      → IfOk result (λ row. AllZip (IsGraftBy graft (map derivation_of given)) ds (map derivation_of row))
      → IfOk result (λ row. AllZip (IsGraft graft.problem.now graft.shift graft.steps.now facts) ds (map derivation_of row))
  if_grafted ds (Ok row) all =
      zip-each (IsGraftBy graft (map derivation_of proofs)) (IsGraft graft.problem.now graft.shift graft.steps.now facts) graft-is ds
      (map derivation_of row)
      (subst (λ (ps : List Proof). AllZip (IsGraftBy graft (map derivation_of ps)) ds (map derivation_of row)) same all)
  if_grafted ds (Err e) all = tt
