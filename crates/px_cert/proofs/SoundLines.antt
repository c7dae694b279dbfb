-- What the lines so far say stays sound, line by line, and fewer lines are left.
use Rattle.std.proofs.Common.{◌≡◌, ◌≤◌, ◌<◌, ◌+◌, ℕ, zero, suc, List, [], ◌∷◌, ◌++◌, length, refl, sym, ap, subst, ◌∙◌, arith, inl, inr}
use Rattle.std.specs.Prelude.{EachIndex, slice_index_or}
use Rattle.std.proofs.lemmas.Bool.{cases_lt}
use Rattle.std.proofs.lemmas.List.{get_or_append_left, get_or_push, length_push}
use Rattle.std.proofs.lemmas.List.Elements.{All-nil, All-push}
use Rattle.px_terms.specs.declared.atom.Atom.{Atom}
use Rattle.px_terms.specs.declared.clause.Clause.{Clause}
use Rattle.px_terms.specs.declared.instance.OpInst.{OpInst}
use Rattle.px_terms.specs.declared.problem.Schema.{Schema}
use Rattle.px_terms.specs.Limits.{most_arguments, most_clauses, most_parameters}
use Rattle.px_terms.specs.Operators.{no_schema}
use Rattle.px_terms.specs.Validity.{IsAtomOf, IsPatternOf}
use Rattle.px_proof.specs.declared.proof.Proof.{Proof}
use Rattle.px_cert.specs.declared.draft.Draft.{Draft}
use Rattle.px_cert.specs.declared.draft.Due.{Due}
use Rattle.px_cert.specs.declared.draft.Due.TheVariants as due
use Rattle.px_cert.specs.ClaimRanges.{AreAtMost, AreSorts}
use Rattle.px_cert.specs.Drafts.{HasObjectFor, IsDue, IsNext, after_line, axioms_then, language, more_of, no_lines, operators_then, rows_of_due, rows_then, steps_then}
use Rattle.px_cert.specs.Limits.{most_atoms, most_objects, most_operators, most_predicates}
use Rattle.px_cert.specs.Lines.{Line}
use Rattle.px_cert.specs.Sound.{IsGoodClause, IsGoodSchema, IsOpenSchema, IsSound, axioms_left, lines_left, operators_left}
use Rattle.px_cert.proofs.Drafting.{axioms_then-left, axioms_then-lines, operators_then-left, operators_then-lines, rows_then-lines, steps_then-lines}

-- ---- what is due after counts

axioms_open : (count : ℕ) (d : Draft) → IsOpenSchema d (axioms_then count)
axioms_open zero d = tt
axioms_open (suc more) d = tt

axioms_no_operator : (count : ℕ) → operators_left (axioms_then count) ≡ most_operators
axioms_no_operator zero = refl
axioms_no_operator (suc more) = refl

operators_open : (count : ℕ) (d : Draft) → IsOpenSchema d (operators_then count)
operators_open zero d = tt
operators_open (suc more) d = tt

operators_no_axiom : (count : ℕ) → axioms_left (operators_then count) ≡ 0
operators_no_axiom zero = refl
operators_no_axiom (suc more) = refl

-- no axiom and no operator is due any more
pub record IsLate (what : Due) : Type 0 where
  pub axioms : axioms_left what ≡ 0
  pub operators : operators_left what ≡ 0
  pub unfinished : (d : Draft) → IsOpenSchema d what

rows_late : (count : ℕ) → IsLate (rows_then count)
rows_late zero = record { axioms = refl; operators = refl; unfinished = λ d. tt }
rows_late (suc more) = record { axioms = refl; operators = refl; unfinished = λ d. tt }

steps_late : (count rows : ℕ) → IsLate (steps_then count rows)
steps_late zero rows = rows_late rows
steps_late (suc more) rows = record { axioms = refl; operators = refl; unfinished = λ d. tt }

-- ---- one more operator

schemas_push : (d : Draft) (ss : List Schema) (s : Schema) → EachIndex ss (λ k. IsGoodSchema d k (slice_index_or ss k no_schema))
    → IsGoodSchema d (length ss) s → EachIndex (ss ++ s ∷ []) (λ k. IsGoodSchema d k (slice_index_or (ss ++ s ∷ []) k no_schema))
schemas_push d ss s each last k below = elim (cases_lt k (length ss)) [
  | inl here ↦ subst (IsGoodSchema d k) (sym (get_or_append_left ss (s ∷ []) no_schema k here)) (each k here)
  | inr past ↦
      let at : length ss ≡ k = omega (arith, below, past, length_push ss s) in
      subst (λ (t : Schema). IsGoodSchema d k t) (sym (get_or_push ss s no_schema k at)) (subst (λ j. IsGoodSchema d j s) at last)
]

module _ (d : Draft) (sound : IsSound d) where
  -- ---- lines after which the axioms and operators are those before

  -- a draft with these axioms and operators, of which so much is still due
  abbrev with_parts : Due → Schema → List ℕ → ℕ → List Atom → List OpInst → List (List Proof) → Draft
  with_parts what schema params goal_variable_count goal steps rows = record {
    due = what;
    objects = d.objects;
    arities = d.arities;
    axioms = d.axioms;
    schemas = d.schemas;
    schema = schema;
    params = params;
    goal_variable_count = goal_variable_count;
    goal = goal;
    steps = steps;
    rows = rows;
  }

  module _ (what : Due) (schema : Schema) (params : List ℕ) (goal_variable_count : ℕ) (goal : List Atom) (steps : List OpInst) (rows : List (List Proof)) where
    abbrev new : Draft
    new = with_parts what schema params goal_variable_count goal steps rows

    same_rules : axioms_left what ≤ axioms_left d.due → operators_left what ≤ operators_left d.due → IsOpenSchema new what → IsSound new
    same_rules fewer_clauses fewer_operators so_far =
        let few_clauses = sound.few_clauses in
        let few_operators = sound.few_operators in
        record {
          objects = sound.objects;
          arities = sound.arities;
          clauses = sound.clauses;
          few_clauses = omega arith;
          operators = sound.operators;
          few_operators = omega arith;
          unfinished = so_far;
        }

    late_line : IsLate what → IsSound new
    late_line late =
        let no_axioms = late.axioms in
        let no_operators = late.operators in
        same_rules (omega arith) (omega arith) (late.unfinished new)

  -- ---- lines before which no axiom and no operator stands

  module _ (nothing : axioms_left d.due ≡ most_clauses) (no_operator : operators_left d.due ≡ most_operators) where
    pub no_axioms : length d.axioms ≡ 0
    no_axioms = let few = sound.few_clauses in omega (arith, nothing)

    pub no_schemas : length d.schemas ≡ 0
    no_schemas = let few = sound.few_operators in omega (arith, no_operator)

    objects_sound : (sorts : List ℕ) → AreSorts most_objects sorts → IsSound (record d { due = due.Predicates; objects = sorts })
    objects_sound sorts is = record {
      objects = is;
      arities = sound.arities;
      clauses = λ k c below. absurd (omega (arith, below, no_axioms));
      few_clauses = omega (arith, no_axioms);
      operators = λ k below. absurd (omega (arith, below, no_schemas));
      few_operators = omega (arith, no_schemas);
      unfinished = tt;
    }

    predicates_sound : (arities : List ℕ) → AreAtMost most_predicates (λ arity. arity ≤ most_arguments) arities
        → IsSound (record d { due = due.Axioms; arities = arities })
    predicates_sound arities is = record {
      objects = sound.objects;
      arities = is;
      clauses = λ k c below. absurd (omega (arith, below, no_axioms));
      few_clauses = omega (arith, no_axioms);
      operators = λ k below. absurd (omega (arith, below, no_schemas));
      few_operators = omega (arith, no_schemas);
      unfinished = tt;
    }

  -- ---- axioms and operators

  axiom_sound : (more : ℕ) (c : Clause) → axioms_left d.due ≡ more + 1 → operators_left d.due ≡ most_operators → IsGoodClause d c
      → IsSound (record d { due = axioms_then more; axioms = d.axioms ++ c ∷ [] })
  axiom_sound more c axioms operators good =
      let few_clauses = sound.few_clauses in
      let few_operators = sound.few_operators in
      let count = length_push d.axioms c in
      let left = axioms_then-left more in
      let others = axioms_no_operator more in
      record {
        objects = sound.objects;
        arities = sound.arities;
        clauses = All-push (IsGoodClause d) d.axioms c sound.clauses good;
        few_clauses = omega arith;
        operators = sound.operators;
        few_operators = omega arith;
        unfinished = axioms_open more (record d { due = axioms_then more; axioms = d.axioms ++ c ∷ [] });
      }

  begun_schema : (sorts : List ℕ) → AreSorts most_parameters sorts → HasObjectFor d (length sorts) → IsGoodSchema d (length d.schemas)
      (record { op = length d.schemas; params = length sorts; pre = []; del = []; add = []; param_sorts = sorts })
  begun_schema sorts is some = (
    record {
      number = refl;
      params = is.0;
      pre = All-nil (IsAtomOf (language d) (length sorts));
      del = All-nil (IsPatternOf (language d) (length sorts));
      add = All-nil (IsAtomOf (language d) (length sorts));
      short = (omega arith, omega arith, omega arith);
      sorts = (refl, is.1);
    },
    some,
  )

  module _ (schema : Schema) (good : IsGoodSchema d (length d.schemas) schema) (atoms : List Atom) where
    with_pre : AreAtMost most_atoms (IsAtomOf (language d) schema.params) atoms
        → IsGoodSchema d (length d.schemas) (record schema { pre = atoms })
    with_pre is = let few = is.0 in (
      record {
        number = good.0.number;
        params = good.0.params;
        pre = is.1;
        del = good.0.del;
        add = good.0.add;
        short = (omega (arith, few), good.0.short.1, good.0.short.2);
        sorts = good.0.sorts;
      },
      good.1,
    )

    with_del : AreAtMost most_atoms (IsPatternOf (language d) schema.params) atoms
        → IsGoodSchema d (length d.schemas) (record schema { del = atoms })
    with_del is = let few = is.0 in (
      record {
        number = good.0.number;
        params = good.0.params;
        pre = good.0.pre;
        del = is.1;
        add = good.0.add;
        short = (good.0.short.0, omega (arith, few), good.0.short.2);
        sorts = good.0.sorts;
      },
      good.1,
    )

    with_add : AreAtMost most_atoms (IsAtomOf (language d) schema.params) atoms
        → IsGoodSchema d (length d.schemas) (record schema { add = atoms })
    with_add is = let few = is.0 in (
      record {
        number = good.0.number;
        params = good.0.params;
        pre = good.0.pre;
        del = good.0.del;
        add = is.1;
        short = (good.0.short.0, good.0.short.1, omega (arith, few));
        sorts = good.0.sorts;
      },
      good.1,
    )

  operator_sound : (more : ℕ) (schema : Schema) → axioms_left d.due ≡ 0 → operators_left d.due ≡ more + 1
      → IsGoodSchema d (length d.schemas) schema
      → IsSound (record d { due = operators_then more; schemas = d.schemas ++ schema ∷ []; schema = no_schema })
  operator_sound more schema axioms operators good =
      let few_clauses = sound.few_clauses in
      let few_operators = sound.few_operators in
      let count = length_push d.schemas schema in
      let left = operators_then-left more in
      let others = operators_no_axiom more in
      record {
        objects = sound.objects;
        arities = sound.arities;
        clauses = sound.clauses;
        few_clauses = omega arith;
        operators = schemas_push d d.schemas schema sound.operators good;
        few_operators = omega arith;
        unfinished = operators_open more (record d { due = operators_then more; schemas = d.schemas ++ schema ∷ []; schema = no_schema });
      }

-- ---- by cases of what is due

-- the line is this one, of which it is known
pub becomes : (P : Line → Type 0) (line made : Line) → line ≡ made → P made → P line
becomes P line made same is = subst P (sym same) is

sound_after : (d : Draft) (what : Due) (line : Line) → d.due ≡ what → IsSound d → IsDue d what line → IsSound (after_line d line)
sound_after d due.Heading line e sound is =
    let axioms = ap axioms_left e in
    let operators = ap operators_left e in
    becomes (λ l. IsSound (after_line d l)) line _ is
    (same_rules d sound due.Objects d.schema d.params d.goal_variable_count d.goal d.steps d.rows (omega arith) (omega arith) tt)
sound_after d due.Objects line e sound is =
    becomes (λ l. IsSound (after_line d l)) line _ is.1 (objects_sound d sound (ap axioms_left e) (ap operators_left e) is.0 is.2)
sound_after d due.Predicates line e sound is =
    becomes (λ l. IsSound (after_line d l)) line _ is.1 (predicates_sound d sound (ap axioms_left e) (ap operators_left e) is.0 is.2)
sound_after d due.Axioms line e sound is =
    let count = is.0 in
    let few = is.2 in
    let axioms = ap axioms_left e in
    let operators = ap operators_left e in
    let left = axioms_then-left count in
    let others = axioms_no_operator count in
    becomes (λ l. IsSound (after_line d l)) line _ is.1
    (same_rules d sound (axioms_then count) d.schema d.params d.goal_variable_count d.goal d.steps d.rows (omega arith) (omega arith)
    (axioms_open count (record d { due = axioms_then count })))
sound_after d (due.Axiom more) line e sound is =
    let axioms : axioms_left d.due ≡ more_of d.due + 1 = ap axioms_left e ∙ ap (λ k. k + 1) (sym (ap more_of e)) in
    becomes (λ l. IsSound (after_line d l)) line _ is.1 (axiom_sound d sound (more_of d.due) is.0 axioms (ap operators_left e) is.2)
sound_after d due.Operators line e sound is =
    let count = is.0 in
    let few = is.2 in
    let axioms = ap axioms_left e in
    let operators = ap operators_left e in
    let left = operators_then-left count in
    let others = operators_no_axiom count in
    becomes (λ l. IsSound (after_line d l)) line _ is.1
    (same_rules d sound (operators_then count) d.schema d.params d.goal_variable_count d.goal d.steps d.rows (omega arith) (omega arith)
    (operators_open count (record d { due = operators_then count })))
sound_after d (due.Operator more) line e sound is =
    let axioms = ap axioms_left e in
    let operators : operators_left d.due ≡ more_of d.due + 1 = ap operators_left e ∙ ap (λ k. k + 1) (sym (ap more_of e)) in
    becomes (λ l. IsSound (after_line d l)) line _ is.1
    (same_rules d sound (due.Pre (more_of d.due))
    (record { op = length d.schemas; params = length is.0; pre = []; del = []; add = []; param_sorts = is.0 }) d.params d.goal_variable_count d.goal
    d.steps d.rows (omega arith) (omega arith) (begun_schema d sound is.0 is.2.0 is.2.1))
sound_after d (due.Pre more) line e sound is =
    let so_far = subst (IsOpenSchema d) e sound.unfinished in
    let axioms = ap axioms_left e in
    let operators : operators_left d.due ≡ more_of d.due + 1 = ap operators_left e ∙ ap (λ k. k + 1) (sym (ap more_of e)) in
    becomes (λ l. IsSound (after_line d l)) line _ is.1
    (same_rules d sound (due.Delete (more_of d.due)) (record d.schema { pre = is.0 }) d.params d.goal_variable_count d.goal d.steps d.rows (omega arith)
    (omega arith) (with_pre d sound d.schema so_far is.0 is.2))
sound_after d (due.Delete more) line e sound is =
    let so_far = subst (IsOpenSchema d) e sound.unfinished in
    let axioms = ap axioms_left e in
    let operators : operators_left d.due ≡ more_of d.due + 1 = ap operators_left e ∙ ap (λ k. k + 1) (sym (ap more_of e)) in
    becomes (λ l. IsSound (after_line d l)) line _ is.1
    (same_rules d sound (due.Add (more_of d.due)) (record d.schema { del = is.0 }) d.params d.goal_variable_count d.goal d.steps d.rows (omega arith)
    (omega arith) (with_del d sound d.schema so_far is.0 is.2))
sound_after d (due.Add more) line e sound is =
    let so_far = subst (IsOpenSchema d) e sound.unfinished in
    let operators : operators_left d.due ≡ more_of d.due + 1 = ap operators_left e ∙ ap (λ k. k + 1) (sym (ap more_of e)) in
    becomes (λ l. IsSound (after_line d l)) line _ is.1
    (operator_sound d sound (more_of d.due) (record d.schema { add = is.0 }) (ap axioms_left e) operators
    (with_add d sound d.schema so_far is.0 is.2))
sound_after d due.Table line e sound is =
    becomes (λ l. IsSound (after_line d l)) line _ is.1
    (late_line d sound due.Goal d.schema is.0 d.goal_variable_count d.goal d.steps d.rows (record { axioms = refl; operators = refl; unfinished = λ _. tt }))
sound_after d due.Goal line e sound is =
    becomes (λ l. IsSound (after_line d l)) line _ is.2
    (late_line d sound due.Steps d.schema d.params is.0 is.1 d.steps d.rows (record { axioms = refl; operators = refl; unfinished = λ _. tt }))
sound_after d due.Steps line e sound is =
    becomes (λ l. IsSound (after_line d l)) line _ is.1
    (late_line d sound (steps_then is.0 (is.0 + 1)) d.schema d.params d.goal_variable_count d.goal d.steps d.rows (steps_late is.0 (is.0 + 1)))
sound_after d (due.Step more rows) line e sound is =
    becomes (λ l. IsSound (after_line d l)) line _ is.1
    (late_line d sound (steps_then (more_of d.due) (rows_of_due d.due)) d.schema d.params d.goal_variable_count d.goal (d.steps ++ is.0 ∷ []) d.rows
    (steps_late (more_of d.due) (rows_of_due d.due)))
sound_after d (due.Row more) line e sound is =
    becomes (λ l. IsSound (after_line d l)) line _ is.1
    (late_line d sound (rows_then (more_of d.due)) d.schema d.params d.goal_variable_count d.goal d.steps (d.rows ++ is.0 ∷ [])
    (rows_late (more_of d.due)))
sound_after d due.Nothing line e sound is = absurd is

pub sound_more : (d : Draft) (line : Line) → IsSound d → IsNext d line → IsSound (after_line d line)
sound_more d line sound next = sound_after d d.due line refl sound next

pub sound_begins : IsSound no_lines
sound_begins = record {
  objects = (omega arith, All-nil (λ (sort : ℕ). sort ≤ 32));
  arities = (omega arith, All-nil (λ (arity : ℕ). arity ≤ 6));
  clauses = All-nil (IsGoodClause no_lines);
  few_clauses = omega arith;
  operators = λ k below. absurd (omega (arith, below));
  few_operators = omega arith;
  unfinished = tt;
}

-- ---- fewer lines are left

abbrev Falls : Draft → Due → Line → Type 0
Falls d what line = lines_left (after_line d line).due < lines_left what

falls_after : (d : Draft) (what : Due) (line : Line) → d.due ≡ what → IsDue d what line → Falls d what line
falls_after d due.Heading line e is = becomes (Falls d due.Heading) line _ is (omega arith)
falls_after d due.Objects line e is = becomes (Falls d due.Objects) line _ is.1 (omega arith)
falls_after d due.Predicates line e is = becomes (Falls d due.Predicates) line _ is.1 (omega arith)
falls_after d due.Axioms line e is =
    let few = is.2 in
    let left = axioms_then-lines is.0 in
    becomes (Falls d due.Axioms) line _ is.1 (omega arith)
falls_after d (due.Axiom more) line e is =
    let more_is = ap more_of e in
    let left = axioms_then-lines (more_of d.due) in
    becomes (Falls d (due.Axiom more)) line _ is.1 (omega arith)
falls_after d due.Operators line e is =
    let few = is.2 in
    let left = operators_then-lines is.0 in
    becomes (Falls d due.Operators) line _ is.1 (omega arith)
falls_after d (due.Operator more) line e is =
    let more_is = ap more_of e in
    becomes (Falls d (due.Operator more)) line _ is.1 (omega arith)
falls_after d (due.Pre more) line e is =
    let more_is = ap more_of e in
    becomes (Falls d (due.Pre more)) line _ is.1 (omega arith)
falls_after d (due.Delete more) line e is =
    let more_is = ap more_of e in
    becomes (Falls d (due.Delete more)) line _ is.1 (omega arith)
falls_after d (due.Add more) line e is =
    let more_is = ap more_of e in
    let left = operators_then-lines (more_of d.due) in
    becomes (Falls d (due.Add more)) line _ is.1 (omega arith)
falls_after d due.Table line e is = becomes (Falls d due.Table) line _ is.1 (omega arith)
falls_after d due.Goal line e is = becomes (Falls d due.Goal) line _ is.2 (omega arith)
falls_after d due.Steps line e is =
    let few = is.2 in
    let left = steps_then-lines is.0 (is.0 + 1) in
    becomes (Falls d due.Steps) line _ is.1 (omega arith)
falls_after d (due.Step more rows) line e is =
    let more_is = ap more_of e in
    let rows_are = ap rows_of_due e in
    let left = steps_then-lines (more_of d.due) (rows_of_due d.due) in
    becomes (Falls d (due.Step more rows)) line _ is.1 (omega arith)
falls_after d (due.Row more) line e is =
    let more_is = ap more_of e in
    let left = rows_then-lines (more_of d.due) in
    becomes (Falls d (due.Row more)) line _ is.1 (omega arith)
falls_after d due.Nothing line e is = absurd is

pub lines_fall : (d : Draft) (line : Line) → IsNext d line → lines_left (after_line d line).due < lines_left d.due
lines_fall d line next = falls_after d d.due line refl next
