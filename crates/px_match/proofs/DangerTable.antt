-- The worked plan is a table of a valid problem.
use Rattle.std.specs.Prelude.{◌≡◌, ◌<◌, ◌&&◌, ℕ, true, List, [], ◌∷◌, All, slice_index, slice_index_or}
use Rattle.std.proofs.Common.{zero, suc, refl, sym, subst, arith}
use Rattle.std.specs.Cmp.Lexicographic.{pointwise}
use Rattle.std.proofs.lemmas.List.Elements.{All-cons}
use Rattle.px_terms.specs.declared.term.Term.TheVariants.{Var}
use Rattle.px_terms.specs.Clauses.{IsClause}
use Rattle.px_terms.specs.MergedNamesLaws.{All-nothing, one}
use Rattle.px_terms.specs.Operators.{no_schema}
use Rattle.px_terms.specs.SortLaws.{no_object_sorts-are, no_sorts-are}
use Rattle.px_terms.specs.Validity.{IsAtomOf, IsAxiomOf, IsPatternOf, IsPatternTermOf, IsSchemaOf, IsTermOf, IsValid}
use Rattle.px_proof.specs.Derivation.{Derivation, fact}
use Rattle.px_proof.specs.LayerLaws.{derivation_of-fact}
use Rattle.px_table.specs.Deciding.{is_table, rows_are_table}
use Rattle.px_table.specs.Marks.{mark_eq, marks_from}
use Rattle.px_table.specs.Tables.{IsTable, rows_of}
use Rattle.px_table.specs.WellSorted.{ParametersFit}
use Rattle.px_table.proofs.DecidingLaws.{tables_are_decided}
use Rattle.px_match.specs.WorkedDanger.{a_schema, b_schema, danger, danger_table, g, leaf_at, p, q, r}

-- ---- the problem

argument : (params v : ℕ) → v < params → All (IsTermOf danger params) (Var v ∷ [])
argument params v below = one (IsTermOf danger params) (Var v) below

a_is_schema : IsSchemaOf danger 0 a_schema
a_is_schema = record {
  number = refl;
  params = omega arith;
  pre = one (IsAtomOf danger 1) (p (Var 0)) ((omega arith, refl), argument 1 0 (omega arith));
  del = one (IsPatternOf danger 1) (q (Var 0)) ((omega arith, refl), one (IsPatternTermOf danger 1) (Var 0) (omega arith));
  add = one (IsAtomOf danger 1) (r (Var 0)) ((omega arith, refl), argument 1 0 (omega arith));
  short = (omega arith, omega arith, omega arith);
  sorts = no_sorts-are danger 1;
}

b_is_schema : IsSchemaOf danger 1 b_schema
b_is_schema = record {
  number = refl;
  params = omega arith;
  pre = All-cons (IsAtomOf danger 2) (r (Var 0)) (q (Var 1) ∷ []) ((omega arith, refl), argument 2 0 (omega arith))
      (one (IsAtomOf danger 2) (q (Var 1)) ((omega arith, refl), argument 2 1 (omega arith)));
  del = All-nothing (IsPatternOf danger 2);
  add = one (IsAtomOf danger 2) (g (Var 0)) ((omega arith, refl), argument 2 0 (omega arith));
  short = (omega arith, omega arith, omega arith);
  sorts = no_sorts-are danger 2;
}

each_schema : (k : ℕ) → k < 2 → IsSchemaOf danger k (slice_index_or (a_schema ∷ b_schema ∷ []) k no_schema)
each_schema zero below = a_is_schema
each_schema (suc zero) below = b_is_schema
each_schema (suc (suc k)) below = absurd (omega (arith, below))

pub danger-valid : IsValid danger
danger-valid = record {
  schemas = each_schema;
  axioms = All-nothing (IsAxiomOf danger);
  arena = record { each = All-nothing IsClause; most = omega arith };
  short = (omega arith, omega arith);
  height = (omega arith, omega arith);
  nodes = (omega arith, omega arith);
  shapes = (omega arith, omega arith);
  weight = omega arith;
  sorts = no_object_sorts-are danger 2 (omega arith);
  no_objects = λ none_there. absurd (omega (arith, none_there));
}

-- ---- the table

abbrev rows : List (List Derivation)
rows =
    (fact (leaf_at 0 (p (Var 0))) ∷ []) ∷ (fact (leaf_at 1 (r (Var 0))) ∷ fact (leaf_at 0 (q (Var 1))) ∷ [])
    ∷ (fact (leaf_at 2 (g (Var 0))) ∷ []) ∷ []

rows-are : rows_of danger_table.proofs ≡ rows
rows-are = λ i.
    (derivation_of-fact (leaf_at 0 (p (Var 0))) i ∷ [])
    ∷ (derivation_of-fact (leaf_at 1 (r (Var 0))) i ∷ derivation_of-fact (leaf_at 0 (q (Var 1))) i ∷ [])
    ∷ (derivation_of-fact (leaf_at 2 (g (Var 0))) i ∷ [])
    ∷ []

test : is_table danger danger_table ≡ true
test =
    subst (λ (made : List (List Derivation)). (rows_are_table danger danger_table.params danger_table.param_sorts danger_table.steps
    danger_table.goal danger_table.goal_variable_count made && pointwise mark_eq danger_table.marks (marks_from 1 made)) ≡ true)
    (sym rows-are) refl

pub danger-table : IsTable danger danger_table
danger-table = (tables_are_decided danger danger_table).0 test

-- its parameters have no sorts, so all objects fit
pub danger-fit : (objects : List ℕ) → ParametersFit danger.object_sorts danger_table objects
danger-fit objects v below sorted = absurd (sorted (none v))
  where
    none : (v : ℕ) → slice_index danger_table.param_sorts v ≡ 0
    none zero = refl
    none (suc zero) = refl
    none (suc (suc v)) = refl
