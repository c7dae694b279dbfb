-- The worked plan's general table: it is the opened plan under a most general solution of its replay.
use Rattle.std.specs.Prelude.{◌≡◌, ◌<◌, ◌≤◌, ◌&&◌, ℕ, true, List, [], ◌∷◌, ◌++◌, filter, map, slice_index_or, All, Contains}
use Rattle.std.proofs.Common.{zero, suc, refl, sym, ap, ◌∙◌, subst, arith}
use Rattle.std.proofs.lemmas.List.Elements.{All-cons, Contains-append_left}
use Rattle.std.specs.Cmp.Lexicographic.{pointwise}
use Rattle.px_base.specs.ListLaws.{All-at, Contains-first, Contains-later}
use Rattle.px_terms.specs.declared.atom.Atom.{Atom}
use Rattle.px_terms.specs.declared.term.Term.{Term}
use Rattle.px_terms.specs.declared.term.Term.TheVariants.{Obj, Var}
use Rattle.px_terms.specs.Clauses.{IsClause}
use Rattle.px_terms.specs.Language.{substitute}
use Rattle.px_terms.specs.MergedNamesLaws.{All-nothing, one}
use Rattle.px_terms.specs.Operators.{no_schema}
use Rattle.px_terms.specs.Order.{term_eq}
use Rattle.px_terms.specs.Validity.{AreSortsOf, IsAtomOf, IsPatternOf, IsSchemaOf, IsTermOf, IsValid}
use Rattle.px_unify.specs.Changes.{MakesEachEqual, MakesPairEqual}
use Rattle.px_proof.specs.Derivation.{Derivation, fact}
use Rattle.px_proof.specs.LayerLaws.{derivation_of-fact}
use Rattle.px_proof.specs.Proves.{IsObjectOrParameter}
use Rattle.px_proof.specs.Substitution.{derivation_under}
use Rattle.px_table.specs.declared.table.Table.{Table}
use Rattle.px_table.specs.Deciding.{rows_are_table}
use Rattle.px_table.specs.Marks.{mark_eq, marks_from}
use Rattle.px_table.specs.Once.{each_once}
use Rattle.px_table.specs.Tables.{IsTable, rows_of}
use Rattle.px_table.proofs.DecidingLaws.{tables_are_decided}
use Rattle.px_replay.specs.Opened.{add_at, goal_objects, goal_opened, opened_rows, opened_terms, replay_pairs, rows_opened, rows_pairs, step_variables, steps_opened}
use Rattle.px_terms.specs.Substitution.{variables_from}
use Rattle.px_general.specs.General.{Generalises, IsNumbered, is_parameter, row_terms, step_terms}
use Rattle.px_general.specs.Replayed.{IsMostGeneral, IsReplayed}
use Rattle.px_general.specs.WorkedGeneral.{of_second, plan, touched, touching, touching_twice}
use Rattle.px_general.proofs.Together.{generalises}

-- the proofs of the table, as derivations
pub rows_are : (sorts : List ℕ) (first second : Term)
    → rows_of (touching_twice sorts first second).proofs ≡ [] ∷ [] ∷ (fact (of_second second) ∷ []) ∷ []
rows_are sorts first second = ap (λ (d : Derivation). [] ∷ [] ∷ (d ∷ []) ∷ []) (derivation_of-fact (of_second second))

abbrev pub two_sorts : List ℕ
two_sorts = 1 ∷ 1 ∷ []

abbrev general : Table
general = touching_twice two_sorts (Var 1) (Var 0)

-- ---- numbers

-- the parameters of the table as they occur
abbrev pub occurring : Term → Term → List (List Derivation) → List Term
occurring first second ds = each_once term_eq (filter (is_parameter 2) (second ∷ first ∷ second ∷ second ∷ row_terms ds))

numbered : IsNumbered general
numbered = ap (occurring (Var 1) (Var 0)) (rows_are two_sorts (Var 1) (Var 0))

-- ---- the problem is valid, and the plan a table

touched_is : IsAtomOf touching 1 (touched (Var 0))
touched_is = ((omega arith, refl), one (IsTermOf touching 1) (Var 0) (omega arith))

one_sort : AreSortsOf touching (1 ∷ [])
one_sort = one (λ (sort : ℕ). sort ≤ 1) 1 (omega arith)

each_schema : (k : ℕ) → k < 1 → IsSchemaOf touching k (slice_index_or touching.schemas k no_schema)
each_schema zero below = record {
  number = refl;
  params = omega arith;
  pre = All-nothing (IsAtomOf touching 1);
  del = All-nothing (IsPatternOf touching 1);
  add = one (IsAtomOf touching 1) (touched (Var 0)) touched_is;
  short = (omega arith, omega arith, omega arith);
  sorts = (refl, one_sort);
}
each_schema (suc k) below = absurd (omega (arith, below))

valid : IsValid touching
valid = record {
  schemas = each_schema;
  axioms = All-nothing _;
  arena = record { each = All-nothing IsClause; most = omega arith };
  short = (omega arith, omega arith);
  height = (omega arith, omega arith);
  nodes = (omega arith, omega arith);
  shapes = (omega arith, omega arith);
  weight = omega arith;
  sorts = (refl, one_sort, omega arith);
  no_objects = λ none_there. absurd (omega (arith, none_there));
}

is_table : IsTable touching plan
is_table = (tables_are_decided touching plan).0
    (subst (λ (rows : List (List Derivation)). rows_are_table touching 0 [] plan.steps plan.goal 0 rows && pointwise mark_eq plan.marks
    (marks_from 1 rows) ≡ true) (sym (rows_are [] (Obj 0) (Obj 0))) refl)

-- ---- the replay

abbrev opened_row : List (List Derivation)
opened_row = [] ∷ [] ∷ (fact (of_second (Var 1)) ∷ []) ∷ []

rows_opened-is : rows_opened touching plan ≡ opened_row
rows_opened-is = ap (opened_rows (add_at touching (steps_opened plan)) 3) (rows_are [] (Obj 0) (Obj 0))

-- the variables of the second step and of the goal become parameter 0, since the goal's proof is the second step's add
abbrev names : List Term
names = Var 1 ∷ Var 0 ∷ Var 0 ∷ []

abbrev roots : List Term
roots = Var 1 ∷ Var 0 ∷ []

abbrev terms_with : List (List Derivation) → List Term
terms_with rows =
    step_terms (steps_opened plan) ++ (variables_from (step_variables plan.steps) (goal_objects plan.goal) ++ row_terms rows)

-- what holds of the three variables holds of each term of the opened plan
each-term : (P : Term → Type 0) → P (Var 0) → P (Var 1) → P (Var 2) → All P (opened_terms touching plan)
each-term P first second third = subst (λ (rows : List (List Derivation)). All P (terms_with rows)) (sym rows_opened-is)
    (All-cons P (Var 0) (Var 1 ∷ Var 2 ∷ Var 1 ∷ []) first (All-cons P (Var 1) (Var 2 ∷ Var 1 ∷ []) second
    (All-cons P (Var 2) (Var 1 ∷ []) third (one P (Var 1) second))))

-- the one pair: the goal's atom, and the add on which its proof rests
the_pair : (terms : List Term) → MakesEachEqual (replay_pairs touching plan) terms → substitute terms (Var 2) ≡ substitute terms (Var 1)
the_pair terms equal =
    let here : MakesEachEqual ((touched (Var 2), touched (Var 1)) ∷ []) terms =
    subst (λ (rows : List (List Derivation)). MakesEachEqual (rows_pairs touching (steps_opened plan) (goal_opened plan) rows) terms)
    rows_opened-is equal in
    same (here 0 (touched (Var 2), touched (Var 1)) (omega arith))
  where
    same : {a b : Term} → touched a ≡ touched b → a ≡ b
    same {a} {b} e = let args : a ∷ [] ≡ b ∷ [] = ap (λ (atom : Atom). atom.args) e in cc

most_general : IsMostGeneral (replay_pairs touching plan) (opened_terms touching plan) names roots
most_general = record {
  unifies =
      subst (λ (rows : List (List Derivation)). MakesEachEqual (rows_pairs touching (steps_opened plan) (goal_opened plan) rows) names)
      (sym rows_opened-is) (one (MakesPairEqual names) (touched (Var 2), touched (Var 1)) refl);
  factors = λ terms equal t has.
      All-at (λ (t : Term). substitute terms t ≡ substitute (map (substitute terms) roots) (substitute names t))
      (opened_terms touching plan) t
      (each-term (λ (t : Term). substitute terms t ≡ substitute (map (substitute terms) roots) (substitute names t)) refl refl
      (the_pair terms equal)) has;
}

abbrev step_variables_there : List Term
step_variables_there = Var 0 ∷ Var 1 ∷ []

in_steps : (t : Term) → Contains step_variables_there t → Contains (opened_terms touching plan) t
in_steps t has =
    Contains-append_left step_variables_there (variables_from (step_variables plan.steps) (goal_objects plan.goal)
    ++ row_terms (rows_opened touching plan)) t has

used : (v : ℕ) → v < 2 → (t : Term) × Contains (opened_terms touching plan) t × (substitute names t ≡ Var v)
used zero below =
    (Var 1, in_steps (Var 1) (Contains-later (Var 0) (Var 1 ∷ []) (Var 1) (Contains-first (Var 1) [])), refl)
used (suc zero) below = (Var 0, in_steps (Var 0) (Contains-first (Var 0) (Var 1 ∷ [])), refl)
used (suc (suc v)) below = absurd (omega (arith, below))

replayed : IsReplayed touching plan general names roots
replayed = record {
  most_general = most_general;
  are_names = each-term (λ (t : Term). IsObjectOrParameter 1 2 (substitute names t)) (omega arith) (omega arith) (omega arith);
  used = used;
  count = refl;
  steps = refl;
  goal = refl;
  goal_variable_count = refl;
  rows =
      rows_are two_sorts (Var 1) (Var 0)
      ∙ ap (λ (rows : List (List Derivation)). map (map (derivation_under names)) rows) (sym rows_opened-is);
  marks = ap (marks_from 1) (sym (rows_are two_sorts (Var 1) (Var 0)));
  sorts = refl;
}

pub answer : Generalises touching plan (touching_twice two_sorts (Var 1) (Var 0))
answer = generalises touching plan general names roots valid is_table refl replayed numbered
