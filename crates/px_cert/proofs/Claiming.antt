-- What is in range has a certificate: its lines follow each other.
use Rattle.std.proofs.Common.{◌≡◌, ◌≤◌, ◌<◌, ◌+◌, ℕ, zero, suc, List, [], ◌∷◌, length, map, get_or, refl, sym, ap, subst, arith}
use Rattle.std.specs.Prelude.{All, slice_index}
use Rattle.std.specs.List.{flat_map}
use Rattle.std.proofs.lemmas.List.Elements.{recursion_from_All}
use Rattle.px_terms.specs.declared.atom.Atom.{Atom}
use Rattle.px_terms.specs.declared.clause.Clause.{Clause}
use Rattle.px_terms.specs.declared.instance.OpInst.{OpInst}
use Rattle.px_terms.specs.declared.problem.Problem.{Problem}
use Rattle.px_terms.specs.declared.problem.Schema.{Schema}
use Rattle.px_terms.specs.declared.term.Term.{Term}
use Rattle.px_terms.specs.declared.term.Term.TheVariants.{Obj, Var, Any}
use Rattle.px_terms.specs.Operators.{no_schema}
use Rattle.px_terms.specs.Validity.{HasArity, IsAtomOf, IsPatternOf, IsPatternTermOf, IsSchemaOf, IsTermOf}
use Rattle.px_proof.specs.declared.proof.Proof.{Proof}
use Rattle.px_proof.specs.Derivation.{Derivation, Derivations, fact, ancestor, step, gap, open_place, none, also}
use Rattle.px_proof.specs.ProofTerm.{derivation_of}
use Rattle.px_table.specs.declared.table.Table.{Table}
use Rattle.px_cert.specs.declared.draft.Draft.{Draft}
use Rattle.px_cert.specs.declared.draft.Due.TheVariants as due
use Rattle.px_cert.specs.Certificates.{IsCertificate, certificate_text, claim_lines, problem_lines, schema_lines, table_lines}
use Rattle.px_cert.specs.ClaimRanges.{AreAtMost, AreProofsInRange, IsCertifiedProblem, IsClaimInRange, IsProofInRange, IsRowProof, IsTableAtom, IsTableStep, certified}
use Rattle.px_cert.specs.Drafts.{Follow, HasObjectFor, axioms_then, language, no_lines, operators_then, rows_then, steps_then}
use Rattle.px_cert.specs.Limits.{greatest_sort, most_atoms, table_variables}
use Rattle.px_cert.specs.Lines.{clause, operators, action, row}
use Rattle.px_cert.specs.Sound.{IsGoodClause, IsSound}
use Rattle.px_cert.proofs.Written.{AreWritten, IsWritten, follow_append, follow_axioms, follow_operators, follow_rows, follow_steps}

-- the draft of all lines
abbrev pub whole_draft : Problem → Table → Draft
whole_draft p t = record {
  due = due.Nothing;
  objects = p.object_sorts;
  arities = p.arities;
  axioms = p.axioms;
  schemas = p.schemas;
  schema = no_schema;
  params = t.param_sorts;
  goal_variable_count = t.goal_variable_count;
  goal = t.goal;
  steps = t.steps;
  rows = t.proofs;
}

-- ---- what is of one problem is of another with as many objects and the same predicates

module _ (p q : Problem) (objects : p.objects ≡ q.objects) (arities : p.arities ≡ q.arities) where
  term_to : (variable_count : ℕ) (u : Term) → IsTermOf p variable_count u → IsTermOf q variable_count u
  term_to variable_count (Obj n) i = omega (arith, i, objects)
  term_to variable_count (Var v) i = i
  term_to variable_count Any i = i

  pattern_term_to : (variable_count : ℕ) (u : Term) → IsPatternTermOf p variable_count u → IsPatternTermOf q variable_count u
  pattern_term_to variable_count (Obj n) i = omega (arith, i, objects)
  pattern_term_to variable_count (Var v) i = i
  pattern_term_to variable_count Any i = tt

  arity_to : (a : Atom) → HasArity p a → HasArity q a
  arity_to a i = subst (λ (l : List ℕ). (a.pred < length l) × (length a.args ≡ slice_index l a.pred)) arities i

  pub atom_to : (variable_count : ℕ) (a : Atom) → IsAtomOf p variable_count a → IsAtomOf q variable_count a
  atom_to variable_count a i = (arity_to a i.0, λ k u below. term_to variable_count _ (i.1 k u below))

  pub pattern_to : (variable_count : ℕ) (a : Atom) → IsPatternOf p variable_count a → IsPatternOf q variable_count a
  pattern_to variable_count a i = (arity_to a i.0, λ k u below. pattern_term_to variable_count _ (i.1 k u below))

  pub step_to : (schemas : List Schema) (inst : OpInst) → IsTableStep p schemas inst → IsTableStep q schemas inst
  step_to schemas inst i = (i.0, i.1, λ k u below. pattern_term_to table_variables _ (i.2 k u below))

  mutual
    proof_to : (axioms : List Clause) (e : Derivation) → IsProofInRange p axioms e → IsProofInRange q axioms e
    proof_to axioms (fact leaf) i = (i.0, i.1, pattern_to table_variables leaf.atom i.2)
    proof_to axioms (ancestor k) i = i
    proof_to axioms (step number theta place parts) i =
        (i.0, i.1, i.2, λ k u below. pattern_term_to table_variables _ (i.3 k u below), i.4, proofs_to axioms parts i.5)
    proof_to axioms (gap atom) i = i
    proof_to axioms open_place i = i

    proofs_to : (axioms : List Clause) (es : Derivations) → AreProofsInRange p axioms es → AreProofsInRange q axioms es
    proofs_to axioms none i = tt
    proofs_to axioms (also e es) i = (proof_to axioms e i.0, proofs_to axioms es i.1)

  pub row_to : (axioms : List Clause) (proofs : List Proof) → AreAtMost most_atoms (IsRowProof p axioms) proofs
      → AreAtMost most_atoms (IsRowProof q axioms) proofs
  row_to axioms proofs i = (i.0, λ k proof below. let here = i.1 k proof below in (here.0, proof_to axioms _ here.1))

-- ---- the problem

-- operators in range one by one are so from a place on
written_from : (l : Problem) (place : ℕ) (ss : List Schema) → ((k : ℕ) → k < length ss → IsWritten l (place + k) (get_or ss k no_schema))
    → AreWritten l place ss
written_from l place [] each = tt
written_from l place (s ∷ ss) each =
    let here : place + 0 ≡ place = omega arith in (
      subst (λ (n : ℕ). IsWritten l n s) here (each 0 (omega arith)),
      written_from l (place + 1) ss (λ k below.
          let next : place + suc k ≡ (place + 1) + k = omega arith in
          subst (λ (n : ℕ). IsWritten l n (get_or ss k no_schema)) next (each (suc k) (omega (arith, below)))),
    )

some_objects : (n objects : ℕ) → (objects ≡ 0 → n ≡ 0) → 0 < n → 0 < objects
some_objects n zero unless some = let nothing = unless refl in absurd (omega (arith, nothing, some))
some_objects n (suc more) unless some = omega arith

module _ (p : Problem) (t : Table) (is : IsCertifiedProblem p) where
  abbrev d : Draft
  d = whole_draft p t

  pub count : length p.object_sorts ≡ p.objects
  count = is.valid.sorts.0

  few_sorts : p.sorts ≤ greatest_sort
  few_sorts = let same = ap (λ (q : Problem). q.sorts) is.limits in omega (arith, same)

  atom_here : (variable_count : ℕ) (a : Atom) → IsAtomOf p variable_count a → IsAtomOf (language d) variable_count a
  atom_here variable_count a i = atom_to p (language d) (sym count) refl variable_count a i

  pattern_here : (variable_count : ℕ) (a : Atom) → IsPatternOf p variable_count a → IsPatternOf (language d) variable_count a
  pattern_here variable_count a i = pattern_to p (language d) (sym count) refl variable_count a i

  object_for : (n : ℕ) → (p.objects ≡ 0 → n ≡ 0) → HasObjectFor d n
  object_for n unless some = let here = some_objects n p.objects unless some in omega (arith, here, count)

  good_clauses : All (IsGoodClause d) p.axioms
  good_clauses = λ k c below.
      let axiom_is = is.valid.axioms k c below in (
        record { variable_count = axiom_is.variable_count; lits = λ j l inside. atom_here _ _ (axiom_is.lits j l inside) },
        (is.valid.arena.each k c below).size,
        object_for _ (λ e. (is.valid.no_objects e).1 k c below),
      )

  schema_is : (k : ℕ) → k < length p.schemas → IsSchemaOf p k (get_or p.schemas k no_schema)
  schema_is k below = is.valid.schemas k below

  schema_object : (k : ℕ) → k < length p.schemas → HasObjectFor d (get_or p.schemas k no_schema).params
  schema_object k below = object_for _ (λ e. (is.valid.no_objects e).0 k no_schema below)

  good_schema : (k : ℕ) → k < length p.schemas → IsWritten (language d) k (get_or p.schemas k no_schema)
  good_schema k below =
      let schema = schema_is k below in
      let short = is.operators.1 k no_schema below in
      let few = schema.params in
      let long = schema.sorts.0 in
      record {
        number = schema.number;
        params = sym schema.sorts.0;
        sorts = (omega (arith, few, long), λ j s inside. let sort = schema.sorts.1 j s inside in let most = few_sorts in omega (arith, sort, most));
        some = subst (λ (n : ℕ). HasObjectFor d n) (sym schema.sorts.0) (schema_object k below);
        pre_is = (short.pre, λ j a inside. atom_here _ _ (schema.pre j a inside));
        del_is = (short.del, λ j a inside. pattern_here _ _ (schema.del j a inside));
        add_is = (short.add, λ j a inside. atom_here _ _ (schema.add j a inside));
      }

  schema_from : (k : ℕ) → k < length p.schemas → IsWritten (language d) (0 + k) (get_or p.schemas k no_schema)
  schema_from k below =
      let same : k ≡ 0 + k = omega arith in
      subst (λ (n : ℕ). IsWritten (language d) n (get_or p.schemas k no_schema)) same (good_schema k below)

  pub whole_sound : IsSound d
  whole_sound =
      let objects = is.objects in
      let most = is.valid.arena.most in
      let operators = is.operators.0 in
      record {
        objects = (
          omega (arith, objects, count),
          λ k s below. let sort = is.valid.sorts.1 k s below in let few = few_sorts in omega (arith, sort, few),
        );
        arities = is.predicates;
        clauses = good_clauses;
        few_clauses = omega (arith, most);
        operators = λ k below.
            let schema = schema_is k below in (
              record {
                number = schema.number;
                params = schema.params;
                pre = λ j a inside. atom_here _ _ (schema.pre j a inside);
                del = λ j a inside. pattern_here _ _ (schema.del j a inside);
                add = λ j a inside. atom_here _ _ (schema.add j a inside);
                short = schema.short;
                sorts = (
                  schema.sorts.0,
                  λ j s inside. let sort = schema.sorts.1 j s inside in let few = few_sorts in omega (arith, sort, few),
                );
              },
              schema_object k below,
            );
        few_operators = omega (arith, operators);
        unfinished = tt;
      }

  abbrev language_draft : Draft
  language_draft = record no_lines { due = axioms_then (length p.axioms); objects = p.object_sorts; arities = p.arities }

  abbrev axioms_draft : Draft
  axioms_draft = record language_draft { due = operators_then (length p.schemas); axioms = p.axioms }

  follow_problem : Follow no_lines (problem_lines p) (record axioms_draft { due = due.Table; schemas = p.schemas })
  follow_problem =
      let most = is.valid.arena.most in
      let last : Draft = record axioms_draft { due = due.Table; schemas = p.schemas } in
      let second : Follow axioms_draft (flat_map schema_lines p.schemas) last =
      follow_operators axioms_draft p.schemas refl refl (written_from (language d) 0 p.schemas schema_from) in
      let first = follow_append language_draft (map clause p.axioms) (operators (length p.schemas) ∷ flat_map schema_lines p.schemas)
      (record language_draft { due = due.Operators; axioms = p.axioms }) last
      (follow_axioms language_draft p.axioms refl (recursion_from_All (IsGoodClause d) p.axioms good_clauses))
      ((length p.schemas, refl, is.operators.0), second) in
      (refl, ((p.object_sorts, refl, whole_sound.objects), ((p.arities, refl, is.predicates), ((length p.axioms, refl, most), first))))

-- ---- the whole

module _ (p : Problem) (t : Table) (is : IsClaimInRange p t) where
  abbrev all : Draft
  all = whole_draft p t

  abbrev steps_draft : Draft
  steps_draft = record (axioms_draft p t is.of) {
    due = steps_then (length t.steps) (length t.steps + 1);
    schemas = p.schemas;
    params = t.param_sorts;
    goal_variable_count = t.goal_variable_count;
    goal = t.goal;
  }

  abbrev rows_draft : Draft
  rows_draft = record steps_draft { due = rows_then (length t.steps + 1); steps = t.steps }

  objects_are : p.objects ≡ length p.object_sorts
  objects_are = sym (count p t is.of)

  good_goal : AreAtMost most_atoms (IsTableAtom (language all)) t.goal
  good_goal = (is.goal.0, λ k a below. pattern_to p (language all) objects_are refl table_variables _ (is.goal.1 k a below))

  good_steps : All (IsTableStep (language all) p.schemas) t.steps
  good_steps = λ k inst below. step_to p (language all) objects_are refl p.schemas _ (is.steps.1 k inst below)

  good_rows : All (AreAtMost most_atoms (IsRowProof (language all) p.axioms)) t.proofs
  good_rows = λ k proofs below. row_to p (language all) objects_are refl p.axioms _ (is.rows k proofs below)

  follow_table : Follow (record (axioms_draft p t is.of) { due = due.Table; schemas = p.schemas }) (table_lines t) all
  follow_table =
      let lines = follow_append steps_draft (map action t.steps) (map row t.proofs) rows_draft all
      (follow_steps steps_draft t.steps (length t.steps + 1) refl (recursion_from_All (IsTableStep (language all) p.schemas) t.steps good_steps))
      (follow_rows rows_draft t.proofs (ap rows_then (sym is.row_count))
      (recursion_from_All (AreAtMost most_atoms (IsRowProof (language all) p.axioms)) t.proofs good_rows)) in
      ((t.param_sorts, refl, is.sorts), ((t.goal_variable_count, t.goal, refl, (is.goal_variable_count, good_goal)), ((length t.steps, refl, is.steps.0), lines)))

  pub follow_claim : Follow no_lines (claim_lines p t) all
  follow_claim =
      follow_append no_lines (problem_lines p) (table_lines t) (record (axioms_draft p t is.of) { due = due.Table; schemas = p.schemas }) all
      (follow_problem p t is.of) follow_table

  pub claimed : IsCertificate (certificate_text p t) (record { problem = p; table = t })
  claimed = record {
    lines = claim_lines p t;
    last = all;
    follow = follow_claim;
    whole = refl;
    bytes_are = refl;
    says = λ i. record {
      problem = record (is.of.limits i) { objects = objects_are i };
      table = record t { params = is.params i; marks = is.marks i };
    };
  }
