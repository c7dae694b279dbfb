-- The text grows line by line to that of the claim.
use Rattle.std.proofs.Common.{◌≡◌, ◌<◌, ◌+◌, ℕ, List, [], ◌∷◌, ◌++◌, codes, length, map, take, get_or, refl, sym, ap, ◌∙◌, append_assoc}
use Rattle.std.specs.Prelude.{Result, Ok, Err, OnOk, if◌then◌else◌}
use Rattle.std.specs.Result.{is_ok}
use Rattle.std.specs.List.{flat_map}
use Rattle.std.proofs.lemmas.List.{append-nil}
use Rattle.std.proofs.lemmas.List.Concat.{flat_map-append}
use Rattle.px_base.proofs.Loops.{take_next}
use Rattle.px_terms.specs.declared.atom.Atom.{Atom}
use Rattle.px_terms.specs.declared.clause.Clause.{Clause}
use Rattle.px_terms.specs.declared.instance.OpInst.{OpInst}
use Rattle.px_terms.specs.declared.problem.Problem.{Problem}
use Rattle.px_terms.specs.declared.problem.Schema.{Schema}
use Rattle.px_proof.specs.declared.proof.Proof.{Proof}
use Rattle.px_proof.specs.Derivation.{derivations}
use Rattle.px_proof.specs.ProofTerm.{derivation_of}
use Rattle.px_table.specs.declared.table.Table.{Table}
use Rattle.px_cert.specs.Certificates.{certificate_text, problem_lines, schema_lines, table_lines}
use Rattle.px_cert.specs.Lines.{Line, heading, objects, predicates, axioms, clause, operators, table, goal, steps, action, row, derivation_items, line_bytes, number_item, proof_item}
use Rattle.px_cert.proofs.ProofItems.{parts_item}

-- what a push appends, where it found memory
pub pushed : {A E : Type 0} (r : Result A E) (new more old : List ℕ) → new ≡ (if is_ok r then more else old) → OnOk r (new ≡ more)
pushed (Ok a) new more old e = e
pushed (Err x) new more old e = tt

-- ---- lists of lines

mapped_bytes : {A : Type 0} (f : Line → List ℕ) (g : A → Line) (xs : List A) → flat_map f (map g xs) ≡ flat_map (λ x. f (g x)) xs
mapped_bytes f g [] = refl
mapped_bytes f g (x ∷ xs) = ap (λ (r : List ℕ). f (g x) ++ r) (mapped_bytes f g xs)

nested_bytes : {A : Type 0} (f : Line → List ℕ) (g : A → List Line) (xs : List A)
    → flat_map f (flat_map g xs) ≡ flat_map (λ x. flat_map f (g x)) xs
nested_bytes f g [] = refl
nested_bytes f g (x ∷ xs) =
    flat_map-append f (g x) (flat_map g xs) ∙ ap (λ (r : List ℕ). flat_map f (g x) ++ r) (nested_bytes f g xs)

four_joined : (old a b c d : List ℕ) → (((old ++ a) ++ b) ++ c) ++ d ≡ old ++ (a ++ (b ++ (c ++ d)))
four_joined old a b c d = simp append_assoc

five_joined : (old a b c d e : List ℕ) → ((((old ++ a) ++ b) ++ c) ++ d) ++ e ≡ old ++ (a ++ (b ++ (c ++ (d ++ e))))
five_joined old a b c d e = simp append_assoc

-- ---- axioms

pub axiom_written : (f : Clause → List ℕ) (arena : List Clause) (number : ℕ) (x : Clause) (old mid new : List ℕ) → number < length arena
    → ((d : Clause) → x.variable_count ≡ (get_or arena number d).variable_count) → ((d : Clause) → x.lits ≡ (get_or arena number d).lits)
    → mid ≡ old ++ flat_map f (take number arena) → new ≡ mid ++ f x → new ≡ old ++ flat_map f (take (number + 1) arena)
axiom_written f arena number x old mid new below variable_count lits before here =
    let same : x ≡ get_or arena number x = λ i. record { variable_count = variable_count x i; lits = lits x i } in
    here ∙ ap (λ (r : List ℕ). r ++ f x) before ∙ append_assoc old (flat_map f (take number arena)) (f x)
    ∙ ap (λ (r : List ℕ). old ++ r)
    (ap (λ (r : List ℕ). flat_map f (take number arena) ++ r) (sym (append-nil (f x)))
    ∙ sym (flat_map-append f (take number arena) (x ∷ [])) ∙ ap (flat_map f) (sym (take_next arena number x below same)))

-- ---- rows

four_regrouped : (old w n i e : List ℕ) → (((old ++ w) ++ n) ++ i) ++ e ≡ old ++ (w ++ ((n ++ i) ++ e))
four_regrouped old w n i e = simp append_assoc

pub row_written : (proofs : List Proof) (old a b d new : List ℕ) → a ≡ old ++ codes "row" → b ≡ a ++ number_item (length proofs)
    → d ≡ b ++ derivation_items (derivations (map derivation_of proofs)) → new ≡ d ++ codes "\n" → new ≡ old ++ line_bytes (row proofs)
row_written proofs old a b d new first second third last =
    let n = number_item (length proofs) in
    last
    ∙ ap (λ (r : List ℕ). r ++ codes "\n")
    (third ∙ ap (λ (r : List ℕ). r ++ derivation_items (derivations (map derivation_of proofs)))
    (second ∙ ap (λ (r : List ℕ). r ++ n) first))
    ∙ ap (λ (items : List ℕ). (((old ++ codes "row") ++ n) ++ items) ++ codes "\n") (parts_item proofs)
    ∙ four_regrouped old (codes "row") n (flat_map proof_item proofs) (codes "\n")

-- ---- the problem

module _ (p : Problem) where
  abbrev axiom_bytes : List ℕ
  axiom_bytes = flat_map (λ x. line_bytes (clause x)) p.axioms

  abbrev operator_bytes : List Schema → List ℕ
  operator_bytes ss = flat_map (λ s. flat_map line_bytes (schema_lines s)) ss

  rule_bytes : axiom_bytes ++ (line_bytes (operators (length p.schemas)) ++ operator_bytes p.schemas)
      ≡ flat_map line_bytes (map clause p.axioms ++ operators (length p.schemas) ∷ flat_map schema_lines p.schemas)
  rule_bytes =
      sym (flat_map-append line_bytes (map clause p.axioms) (operators (length p.schemas) ∷ flat_map schema_lines p.schemas)
      ∙ (λ i. mapped_bytes line_bytes clause p.axioms i
      ++ (line_bytes (operators (length p.schemas)) ++ nested_bytes line_bytes schema_lines p.schemas i)))

  pub problem_written : (os ars : List ℕ) (ss : List Schema) (old a b c d new : List ℕ) → os ≡ p.object_sorts → ars ≡ p.arities
      → ss ≡ p.schemas → a ≡ old ++ line_bytes heading → b ≡ a ++ line_bytes (objects os) → c ≡ b ++ line_bytes (predicates ars)
      → d ≡ c ++ (line_bytes (axioms (length p.axioms)) ++ axiom_bytes)
      → new ≡ d ++ (line_bytes (operators (length ss)) ++ operator_bytes ss) → new ≡ old ++ flat_map line_bytes (problem_lines p)
  problem_written os ars ss old a b c d new os_is ars_is ss_is first second third fourth last =
      let x = line_bytes (axioms (length p.axioms)) in
      let y = line_bytes (operators (length p.schemas)) ++ operator_bytes p.schemas in
      let b_is = second ∙ (λ i. first i ++ line_bytes (objects (os_is i))) in
      let c_is = third ∙ (λ i. b_is i ++ line_bytes (predicates (ars_is i))) in
      let d_is = fourth ∙ (λ i. c_is i ++ (x ++ axiom_bytes)) in
      last ∙ (λ i. d_is i ++ (line_bytes (operators (length (ss_is i))) ++ operator_bytes (ss_is i)))
      ∙ five_joined old (line_bytes heading) (line_bytes (objects p.object_sorts)) (line_bytes (predicates p.arities)) (x ++ axiom_bytes) y
      ∙ ap (λ (r : List ℕ). old ++ (line_bytes heading ++ (line_bytes (objects p.object_sorts) ++ (line_bytes (predicates p.arities) ++ r))))
      (append_assoc x axiom_bytes y ∙ ap (λ (r : List ℕ). x ++ r) rule_bytes)

-- ---- the table

module _ (t : Table) where
  abbrev step_bytes : List OpInst → List ℕ
  step_bytes ts = flat_map (λ inst. line_bytes (action inst)) ts

  abbrev row_bytes : List (List Proof) → List ℕ
  row_bytes rs = flat_map (λ proofs. line_bytes (row proofs)) rs

  body_bytes : step_bytes t.steps ++ row_bytes t.proofs ≡ flat_map line_bytes (map action t.steps ++ map row t.proofs)
  body_bytes =
      sym (flat_map-append line_bytes (map action t.steps) (map row t.proofs)
      ∙ (λ i. mapped_bytes line_bytes action t.steps i ++ mapped_bytes line_bytes row t.proofs i))

  pub table_written : (ps : List ℕ) (atoms : List Atom) (ts : List OpInst) (rs : List (List Proof)) (old a b c new : List ℕ)
      → ps ≡ t.param_sorts → atoms ≡ t.goal → ts ≡ t.steps → rs ≡ t.proofs → a ≡ old ++ line_bytes (table ps)
      → b ≡ a ++ line_bytes (goal t.goal_variable_count atoms) → c ≡ b ++ (line_bytes (steps (length ts)) ++ step_bytes ts)
      → new ≡ c ++ row_bytes rs → new ≡ old ++ flat_map line_bytes (table_lines t)
  table_written ps atoms ts rs old a b c new ps_is atoms_are ts_are rs_are first second third last =
      let x = line_bytes (steps (length t.steps)) in
      let a_is = first ∙ (λ i. old ++ line_bytes (table (ps_is i))) in
      let b_is = second ∙ (λ i. a_is i ++ line_bytes (goal t.goal_variable_count (atoms_are i))) in
      let c_is = third ∙ (λ i. b_is i ++ (line_bytes (steps (length (ts_are i))) ++ step_bytes (ts_are i))) in
      last ∙ (λ i. c_is i ++ row_bytes (rs_are i))
      ∙ four_joined old (line_bytes (table t.param_sorts)) (line_bytes (goal t.goal_variable_count t.goal)) (x ++ step_bytes t.steps) (row_bytes t.proofs)
      ∙ ap (λ (r : List ℕ). old ++ (line_bytes (table t.param_sorts) ++ (line_bytes (goal t.goal_variable_count t.goal) ++ r)))
      (append_assoc x (step_bytes t.steps) (row_bytes t.proofs) ∙ ap (λ (r : List ℕ). x ++ r) body_bytes)

-- ---- the whole

pub text_written : (p : Problem) (t : Table) (none first both items : List ℕ) → none ≡ [] → first ≡ none ++ flat_map line_bytes (problem_lines p)
    → both ≡ first ++ flat_map line_bytes (table_lines t) → items ≡ both → items ≡ certificate_text p t
text_written p t none first both items none_is first_is both_is items_are =
    items_are ∙ both_is ∙ ap (λ (r : List ℕ). r ++ flat_map line_bytes (table_lines t))
    (first_is ∙ ap (λ (r : List ℕ). r ++ flat_map line_bytes (problem_lines p)) none_is)
    ∙ sym (flat_map-append line_bytes (problem_lines p) (table_lines t))
