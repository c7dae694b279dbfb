-- The end of a table's block: its steps as instances, its proofs, and when its parts make a table.
use Rattle.px_base.specs.Bounds.{u32_max}
use Rattle.px_so_far.proofs.Common.{◌≡◌, ℕ, ◌≤◌, ◌<◌, ◌+◌, ◌&&◌, ◌==◌, not, Bool, true, false, List, [], ◌∷◌, map, length, refl, sym, ap, ◌∙◌, arith, nat_lt, list_any, and_parts, by_test, Problem, length-map, eqb-true, not-false}
use Rattle.std.specs.List.{list_all}
use Rattle.px_script.proofs.Common.{ltb-true}
use Rattle.px_proof.specs.Derivation.{Derivation}
use Rattle.px_proof.specs.LayerLaws.{comes_back, proof_of}
use Rattle.px_proof.specs.ProofTerm.{derivation_of}
use Rattle.px_proof.specs.declared.proof.Proof.{Proof}
use Rattle.px_table.specs.Deciding.{are_in_range, is_step_of, rows_are_table, rows_prove}
use Rattle.px_table.specs.Marks.{marks_from}
use Rattle.px_table.specs.Tables.{rows_of}
use Rattle.px_table.specs.declared.mark.Mark.{Mark}
use Rattle.px_table.specs.declared.table.Table.{Table}
use Rattle.px_script.specs.Declarations.{table_made}
use Rattle.px_table.specs.WellSorted.{sorts_by_places}
use Rattle.px_script.specs.Faults.{is_bad_block}
use Rattle.px_terms.specs.Limits.{most_parameters}
use Rattle.px_terms.specs.Operators.{schema_of}
use Rattle.px_terms.specs.Validity.{IsValid}
use Rattle.px_terms.specs.declared.atom.Atom.{Atom}
use Rattle.px_terms.specs.declared.instance.OpInst.{OpInst}
use Rattle.px_so_far.specs.SoFarViews.{step_view, table_kind, table_view}
use Rattle.px_so_far.specs.declared.open_tables.OpenTable.{OpenTable}
use Rattle.px_so_far.specs.declared.open_tables.WrittenStep.{WrittenStep}

-- ---- proofs, and back

row-is : (row : List Proof) → map proof_of (map derivation_of row) ≡ row
row-is [] = refl
row-is (p ∷ row) = λ i. comes_back p i ∷ row-is row i

pub rows-are : (rows : List (List Proof)) → map (map proof_of) (rows_of rows) ≡ rows
rows-are [] = refl
rows-are (row ∷ rows) = λ i. row-is row i ∷ rows-are rows i

-- ---- steps with too many terms

abbrev pub is_wide : WrittenStep → Bool
is_wide s = nat_lt most_parameters (length s.terms.items)

module _ (problem : Problem) (valid : IsValid problem) (params : ℕ) where
  -- no operator has so many parameters
  no-step : (s : WrittenStep) → is_wide s ≡ true → is_step_of problem params (step_view s) ≡ false
  no-step s wide = by_test (is_step_of problem params (step_view s)) (λ is.
      let one = and_parts (nat_lt s.op (length problem.schemas)) _ is in
      let two = and_parts (length s.terms.items == (schema_of problem (step_view s)).params) _ one.1 in
      let below : s.op < length problem.schemas = ltb-true _ _ one.0 in
      let few = (valid.schemas s.op below).params in
      let count : length s.terms.items ≡ (schema_of problem (step_view s)).params = eqb-true _ _ two.0 in
      let many : most_parameters < length s.terms.items = ltb-true _ _ wide in
      absurd (omega (arith, few, count, many))) (λ is. is)

  no-steps : (steps : List WrittenStep) → list_any is_wide steps ≡ true → list_all (is_step_of problem params) (map step_view steps) ≡ false
  no-steps [] wide = cc
  no-steps (s ∷ steps) wide = by_test (is_wide s) (λ one. rw (no-step s one) refl)
      (λ none. let more : list_any is_wide steps ≡ true = rw none at wide in
      told (is_step_of problem params (step_view s)) (no-steps steps more))
    where
      told : (b : Bool) → list_all (is_step_of problem params) (map step_view steps) ≡ false
          → (b && list_all (is_step_of problem params) (map step_view steps)) ≡ false
      told true none = none
      told false none = refl

  pub no-table : (sorts : List ℕ) (steps : List WrittenStep) (goal : List Atom) (goal_variable_count : ℕ) (rows : List (List Derivation))
      → list_any is_wide steps ≡ true → rows_are_table problem params sorts (map step_view steps) goal goal_variable_count rows ≡ false
  no-table sorts steps goal goal_variable_count rows wide =
      let none : are_in_range problem params (map step_view steps) goal goal_variable_count ≡ false =
      told (nat_lt (length (map step_view steps)) u32_max) (rw (no-steps steps wide) refl) in rw none refl
    where
      told : {b : Bool} (a : Bool) → b ≡ false → (a && b) ≡ false
      told true none = none
      told false none = refl

-- ---- rows

rows-count : (objects params : ℕ) (problem : Problem) (steps : List OpInst) (goal : List Atom) (rows : List (List Derivation))
    → rows_prove objects params problem.axioms problem steps goal rows ≡ true → length rows ≡ length steps + 1
rows-count objects params problem [] goal [] prove = cc
rows-count objects params problem [] goal (row ∷ []) prove = omega arith
rows-count objects params problem [] goal (row ∷ second ∷ rows) prove = cc
rows-count objects params problem (inst ∷ steps) goal [] prove = cc
rows-count objects params problem (inst ∷ steps) goal (row ∷ rows) prove =
    let more = rows-count objects params problem steps goal rows (and_parts _ _ prove).1 in omega (arith, more)

-- a table has few rows
pub few-rows : (problem : Problem) (params : ℕ) (sorts : List ℕ) (steps : List OpInst) (goal : List Atom) (goal_variable_count : ℕ)
    (rows : List (List Proof)) → rows_are_table problem params sorts steps goal goal_variable_count (rows_of rows) ≡ true → length rows ≤ u32_max
few-rows problem params sorts steps goal goal_variable_count rows is =
    let one = and_parts (are_in_range problem params steps goal goal_variable_count) _ is in
    let two = and_parts _ _ one.1 in
    let three = and_parts (rows_prove problem.objects params problem.axioms problem steps goal (rows_of rows)) _ two.1 in
    let count = rows-count problem.objects params problem steps goal (rows_of rows) three.0 in
    let few : length steps < u32_max = ltb-true _ _ (and_parts (nat_lt (length steps) u32_max) _ one.0).0 in
    omega (arith, count, few, length-map rows (map derivation_of))

-- ---- bad blocks

module _ (problem : Problem) (valid : IsValid problem) (t : OpenTable) where
  pub too-wide : t.has_goal ≡ true → list_any is_wide t.steps.items ≡ true
      → true ≡ is_bad_block problem (table_kind t.has_goal (table_view t))
  too-wide goal wide = rw (
    goal,
    no-table problem valid t.parameters _ t.steps.items t.goal.items t.goal_variable_count (rows_of t.rows.items) wide,
  ) refl

  -- a good block has its goal, and its parts make a table
  pub good-table : is_bad_block problem (table_kind t.has_goal (table_view t)) ≡ false
      → rows_are_table problem t.parameters (sorts_by_places problem (map step_view t.steps.items) t.parameters)
      (map step_view t.steps.items)
      t.goal.items t.goal_variable_count (rows_of t.rows.items) ≡ true
  good-table good = by_test t.has_goal (λ goal. not-false _ (rw goal at good)) (λ none. absurd (cc (rw none at good)))

  pub not-wide : is_bad_block problem (table_kind t.has_goal (table_view t)) ≡ false → list_any is_wide t.steps.items ≡ false
  not-wide good = by_test (list_any is_wide t.steps.items)
      (λ wide. absurd (cc (sym (good-table good) ∙ no-table problem valid t.parameters _ t.steps.items t.goal.items t.goal_variable_count _ wide)))
      (λ none. none)

  pub rows-few : is_bad_block problem (table_kind t.has_goal (table_view t)) ≡ false → length t.rows.items ≤ u32_max
  rows-few good = few-rows problem t.parameters _ (map step_view t.steps.items) t.goal.items t.goal_variable_count t.rows.items (good-table good)

-- the table that the parts make
module _ (problem : Problem) (t : OpenTable) (steps : List OpInst) (goal : List Atom) (marks : List Mark) (rows : List (List Proof))
    (sorts : List ℕ) (steps_are : steps ≡ map step_view t.steps.items) (goal_is : goal ≡ t.goal.items)
    (marks_are : marks ≡ marks_from 1 (rows_of t.rows.items)) (rows_is : rows ≡ t.rows.items)
    (sorts_are : sorts ≡ sorts_by_places problem steps t.parameters) where
  pub made-is : ◌≡◌ {A = Table} (record {
    params = t.parameters;
    steps = steps;
    goal = goal;
    goal_variable_count = t.goal_variable_count;
    marks = marks;
    proofs = rows;
    param_sorts = sorts;
  }) (table_made problem (table_view t))
  made-is =
      let back : t.rows.items ≡ map (map proof_of) (rows_of t.rows.items) = sym (rows-are t.rows.items) in
      let rows_back = rows_is ∙ back in
      let marks_back = marks_are ∙ ap (λ rs. marks_from 1 (rows_of rs)) back in
      let sorts_back = sorts_are ∙ ap (λ os. sorts_by_places problem os t.parameters) steps_are in λ i. record {
        params = t.parameters;
        steps = steps_are i;
        goal = goal_is i;
        goal_variable_count = t.goal_variable_count;
        marks = marks_back i;
        proofs = rows_back i;
        param_sorts = sorts_back i;
      }
