-- What the code finds about sources, step by step and leaf by leaf.
use Rattle.std.specs.Prelude.{◌≡◌, ◌≢◌, ◌⊎◌, ◌==◌, true, false, ◌≤◌, ◌<◌, ◌+◌, ℕ, not, cond, Some, List, [], ◌∷◌, ◌++◌, length, map, slice_get, slice_index_or, take, All, Contains, Result, Ok, Err, IfOk}
use Rattle.std.specs.List.{AllZip}
use Rattle.std.proofs.Common.{refl, sym, ap, ◌∙◌, subst, inl, inr, arith}
use Rattle.std.proofs.lemmas.List.{length-map, map-append, take_more}
use Rattle.std.proofs.lemmas.List.Elements.{All-cons, All-head, All-nil, All-push, All-tail, AllZip-push}
use Rattle.std.proofs.lemmas.Option.{slice_get_read}
use Rattle.px_base.specs.Answers.{both_answers, some_same}
use Rattle.px_base.specs.declared.no_memory.NoMemory.{NoMemory}
use Rattle.px_base.specs.ListLaws.{All-at}
use Rattle.px_terms.specs.declared.atom.Atom.{Atom}
use Rattle.px_terms.specs.declared.instance.OpInst.{OpInst}
use Rattle.px_terms.specs.declared.problem.Problem.{Problem}
use Rattle.px_terms.specs.declared.problem.Schema.{Schema}
use Rattle.px_terms.specs.Operators.{adds, atoms_of, schema_of}
use Rattle.px_terms.specs.Order.{atom_eq}
use Rattle.px_terms.specs.OrderLaws.{atom_eq-decides}
use Rattle.px_terms.specs.Validity.{IsAtomOf, IsValid}
use Rattle.px_proof.specs.declared.proof.Leaf.{Leaf}
use Rattle.px_proof.specs.declared.proof.Proof.{Proof}
use Rattle.px_proof.specs.declared.proof.Proof.TheVariants.{Fact}
use Rattle.px_proof.specs.Derivation.{Derivation, derivations, fact, leaves_of}
use Rattle.px_proof.specs.GraftLaws.{first_leaves-all}
use Rattle.px_proof.specs.Grafting.{first_leaves, grafted, later_leaves}
use Rattle.px_proof.specs.LayerLaws.{derivation_of-fact}
use Rattle.px_proof.specs.PlaceLaws.{Contains-mapped}
use Rattle.px_proof.specs.ProofTerm.{derivation_of}
use Rattle.px_question.specs.Answers.{IsFirst}
use Rattle.px_question.specs.Rows.{IsAnswerProof}
use Rattle.px_question.specs.Settings.{setting_of}
use Rattle.px_table.specs.Marks.{step_at}
use Rattle.px_ends.specs.Made.{IsSource, IsSourced}
use Rattle.px_support.proofs.RowLeaves.{answer-proofs}
use Rattle.px_support.specs.Sources.{AreSources, HasFirstLeaves, IsFirstPlace}

-- ---- the first place among the adds

module _ (problem : Problem) (inst : OpInst) (atom : Atom) where
  -- the atom stands at none of the first places
  abbrev pub NotAmongFirst : ℕ → Type 0
  NotAmongFirst count = (i : ℕ) → i < count → slice_get (adds problem inst) i ≢ Some atom

  -- what is added at a place
  pub added-at : (schema : Schema) (k : ℕ) (added : Atom) → schema ≡ schema_of problem inst
      → slice_get (atoms_of schema.add inst) k ≡ Some added → slice_get (adds problem inst) k ≡ Some added
  added-at schema k added same at = subst (λ (s : Schema). slice_get (atoms_of s.add inst) k ≡ Some added) same at

  pub first-here : (schema : Schema) (k : ℕ) (added : Atom) → schema ≡ schema_of problem inst
      → slice_get (atoms_of schema.add inst) k ≡ Some added → atom_eq added atom ≡ true → NotAmongFirst k
      → IsFirstPlace (adds problem inst) atom k
  first-here schema k added same at equal none =
      record { here = added-at schema k added same at ∙ ap Some ((atom_eq-decides added atom).0 equal); first = none }

  pub first-later : (schema : Schema) (k : ℕ) (added : Atom) → schema ≡ schema_of problem inst
      → slice_get (atoms_of schema.add inst) k ≡ Some added → atom_eq added atom ≡ false → NotAmongFirst k → NotAmongFirst (k + 1)
  first-later schema k added same at differ none i below there = elim (here_or_before i k below) [
    | inl here ↦
        let is : added ≡ atom =
        some_same (sym (added-at schema k added same at) ∙ ap (slice_get (adds problem inst)) (sym here) ∙ there) in
        both_answers (atom_eq added atom) differ ((atom_eq-decides added atom).1 is)
    | inr before ↦ none i before there
  ]
    where
      here_or_before : (a b : ℕ) → a < b + 1 → (a ≡ b) ⊎ (a < b)
      here_or_before a b h = grind arith

  pub first-none : (schema : Schema) (k : ℕ) → schema ≡ schema_of problem inst → length schema.add ≤ k → NotAmongFirst k
      → ¬ Contains (adds problem inst) atom
  first-none schema k same all none has =
      let long : length (adds problem inst) ≡ length schema.add =
      length-map (schema_of problem inst).add _ ∙ ap (λ (s : Schema). length s.add) (sym same) in
      none has.0 (omega (arith, has.1, long, all)) (slice_get_read (adds problem inst) (length (adds problem inst)) has.0 atom refl has.1
      (sym has.2))

-- ---- the last step that adds an atom

module _ (problem : Problem) (steps : List OpInst) (atom : Atom) where
  -- none of the last steps, as many as the number, adds the atom
  abbrev pub NotAddedByLast : ℕ → Type 0
  NotAddedByLast passed =
      (k : ℕ) (inst : OpInst) → length steps < k + passed → step_at steps k ≡ Some inst → ¬ Contains (adds problem inst) atom

-- ---- the leaves of a proof

module _ (problem : Problem) (made : List OpInst) where
  map-push : {A B : Type 0} (f : A → B) (xs : List A) (x : A) → map f (xs ++ x ∷ []) ≡ map f xs ++ f x ∷ []
  map-push f [] x = refl
  map-push f (y ∷ xs) x = ap (λ l. f y ∷ l) (map-push f xs x)

  sources-push : (old : List Leaf) (parts : List Derivation) (leaf source : Leaf) → AreSources problem made old parts
      → IsSource problem made source → source.atom ≡ leaf.atom
      → AreSources problem made (old ++ leaf ∷ []) (parts ++ fact source ∷ [])
  sources-push old parts leaf source are is same = (
    are.0 ++ source ∷ [],
    map-push (λ (l : Leaf). l.atom) are.0 source ∙ (λ i. are.1 i ++ same i ∷ []) ∙ sym (map-push (λ (l : Leaf). l.atom) old leaf),
    All-push (IsSource problem made) are.0 source are.2 is,
    ap (λ (ds : List Derivation). ds ++ fact source ∷ []) are.3 ∙ sym (map-push (λ (l : Leaf). fact l) are.0 source),
  )

  -- one leaf more
  pub sources-next : (leaves : List Leaf) (i : ℕ) (leaf source : Leaf) (parts more : List Proof) → i < length leaves
      → leaf ≡ slice_index_or leaves i leaf
      → AreSources problem made (take i leaves) (map derivation_of parts) → IsSource problem made source → source.atom ≡ leaf.atom
      → more ≡ parts ++ Fact source ∷ []
      → AreSources problem made (take (i + 1) leaves) (map derivation_of more)
  sources-next leaves i leaf source parts more below at are is same pushed =
      let taken : take (i + 1) leaves ≡ take i leaves ++ leaf ∷ [] =
      take_more leaves i leaf below ∙ ap (λ (l : Leaf). take i leaves ++ l ∷ []) (sym at) in
      let mapped : map derivation_of more ≡ map derivation_of parts ++ fact source ∷ [] =
      ap (map derivation_of) pushed ∙ map-push derivation_of parts (Fact source)
      ∙ ap (λ (d : Derivation). map derivation_of parts ++ d ∷ []) (derivation_of-fact source) in
      subst (λ (ls : List Leaf). AreSources problem made ls (map derivation_of more)) (sym taken)
      (subst (AreSources problem made (take i leaves ++ leaf ∷ [])) (sym mapped)
      (sources-push (take i leaves) (map derivation_of parts) leaf source are is same))

  -- there are as many as leaves in column 0
  pub sources-count : (d : Derivation) (parts : List Proof) → HasFirstLeaves d
      → AreSources problem made (leaves_of d) (map derivation_of parts) → length parts ≡ length (first_leaves (leaves_of d))
  sources-count d parts first are =
      sym (length-map parts derivation_of) ∙ ap length are.3 ∙ length-map are.0 (λ (l : Leaf). fact l)
      ∙ sym (length-map are.0 (λ (l : Leaf). l.atom)) ∙ ap length are.1
      ∙ length-map (leaves_of d) (λ (l : Leaf). l.atom) ∙ ap length (sym (first_leaves-all (leaves_of d) first))

  pub sourced-by : (d new : Derivation) (parts : List Derivation) → AreSources problem made (leaves_of d) parts → new ≡ grafted 0 parts d
      → IsSourced problem made d new
  sourced-by d new parts are is = (are.0, are.1, are.2, is ∙ ap (λ (ds : List Derivation). grafted 0 ds d) are.3)

  -- where the graft is made
  pub if_sourced : (d : Derivation) (parts : List Derivation) (result : Result Proof NoMemory) → AreSources problem made (leaves_of d) parts
      → IfOk result (λ new. derivation_of new ≡ grafted 0 parts d)
      → IfOk result (λ new. IsSourced problem made d (derivation_of new))
  if_sourced d parts (Ok new) are is = sourced-by d (derivation_of new) parts are is
  if_sourced d parts (Err e) are is = tt

-- no leaf is in a later column
later-none : (leaves : List Leaf) → All (λ leaf. leaf.column ≡ 0) leaves → later_leaves leaves ≡ []
later-none [] all = refl
later-none (leaf ∷ leaves) all =
    ap (λ b. cond (not b) (leaf ∷ later_leaves leaves) (later_leaves leaves))
    (ap (λ n. n == 0) (All-head (λ (l : Leaf). l.column ≡ 0) leaf leaves all))
    ∙ later-none leaves (All-tail (λ (l : Leaf). l.column ≡ 0) leaf leaves all)

pub no_later_columns : (P : Leaf → Type 0) (d : Derivation) → HasFirstLeaves d → All P (later_leaves (leaves_of d))
no_later_columns P d first = subst (All P) (sym (later-none (leaves_of d) first)) (All-nil P)

-- ---- the proofs of a row

pub sourced-next : (R : Derivation → Derivation → Type 0) (proofs : List Proof) (i : ℕ) (proof new : Proof) (made more : List Proof)
    → i < length proofs → proof ≡ slice_index_or proofs i proof
    → AllZip R (map derivation_of (take i proofs)) (map derivation_of made) → R (derivation_of proof) (derivation_of new)
    → more ≡ made ++ new ∷ []
    → AllZip R (map derivation_of (take (i + 1) proofs)) (map derivation_of more)
sourced-next R proofs i proof new made more below at all is pushed =
    let taken : take (i + 1) proofs ≡ take i proofs ++ proof ∷ [] =
    take_more proofs i proof below ∙ ap (λ (p : Proof). take i proofs ++ p ∷ []) (sym at) in
    subst (λ (ps : List Proof). AllZip R (map derivation_of ps) (map derivation_of more)) (sym taken)
    (subst (λ (ps : List Proof). AllZip R (map derivation_of (take i proofs ++ proof ∷ [])) (map derivation_of ps)) (sym pushed)
    (subst (λ (ds : List Derivation). AllZip R ds (map derivation_of (made ++ new ∷ [])))
    (sym (map-append derivation_of (take i proofs) (proof ∷ [])))
    (subst (λ (ds : List Derivation). AllZip R (map derivation_of (take i proofs) ++ derivation_of proof ∷ []) ds)
    (sym (map-append derivation_of made (new ∷ [])))
    (AllZip-push R (map derivation_of (take i proofs)) (map derivation_of made) (derivation_of proof) (derivation_of new) all is))))

-- the item's leaves are in column 0
pub first_leaves-at : (proofs : List Proof) (i : ℕ) (proof : Proof) → i < length proofs → proof ≡ slice_index_or proofs i proof
    → All HasFirstLeaves (map derivation_of proofs) → HasFirstLeaves (derivation_of proof)
first_leaves-at proofs i proof below at all =
    All-at HasFirstLeaves (map derivation_of proofs) (derivation_of proof) all
    (Contains-mapped derivation_of proofs proof (i, below, sym at))

zip-first : (problem : Problem) (facts atoms : List Atom) (ds : List Derivation) → AllZip (IsAnswerProof problem facts) atoms ds
    → All HasFirstLeaves ds
zip-first problem facts [] [] all = All-nil HasFirstLeaves
zip-first problem facts [] (d ∷ ds) all = absurd all
zip-first problem facts (atom ∷ atoms) [] all = absurd all
zip-first problem facts (atom ∷ atoms) (d ∷ ds) all =
    All-cons HasFirstLeaves d ds (λ k e below. (all.0.placed k e below).0) (zip-first problem facts atoms ds all.1)

-- the leaves of the first proofs are
pub first-leaves : (problem : Problem) (facts formula : List Atom) (variable_count : ℕ) (objects : List ℕ) (ds : List Derivation) → IsValid problem
    → All (IsAtomOf problem variable_count) formula
    → IsFirst (setting_of problem facts) formula variable_count objects (derivations ds) → All HasFirstLeaves ds
first-leaves problem facts formula variable_count objects ds valid of first =
    zip-first problem facts _ ds (answer-proofs problem facts formula variable_count objects ds valid of first.finished)
