-- Editing a table: of its first steps those that some of their adds rest on, as a table of its own (Fikes, Hart and Nilsson 1972).
use Rattle.std.specs.Prelude.{◌≡◌, ◌↔◌, ◌≤◌, ◌-◌, ℕ, nat_le, cond, List, [], ◌∷◌, ◌++◌, length, map, filter, flat_map, count_by, slice_index_or, Contains}
use Rattle.std.proofs.Common.{suc}
use Rattle.std.specs.List.Sorted.{IsStrictlyIncreasing}
use Rattle.px_terms.specs.declared.atom.Atom.{Atom}
use Rattle.px_terms.specs.declared.instance.OpInst.{OpInst}
use Rattle.px_terms.specs.declared.problem.Problem.{Problem}
use Rattle.px_terms.specs.declared.term.Term.{Term}
use Rattle.px_terms.specs.declared.term.Term.TheVariants.{Var, Any as WildCard}
use Rattle.px_terms.specs.Operators.{adds}
use Rattle.px_terms.specs.Order.{term_eq}
use Rattle.px_terms.specs.Substitution.{substitute_atom, substitute_instance}
use Rattle.px_proof.specs.declared.proof.Leaf.{Leaf}
use Rattle.px_proof.specs.Derivation.{Derivation, Derivations, fact, ancestor, step, gap, open_place, none, also, no_atom}
use Rattle.px_proof.specs.Substitution.{derivation_under}
use Rattle.px_table.specs.declared.mark.Mark.{Mark}
use Rattle.px_table.specs.declared.table.Table.{Table}
use Rattle.px_table.specs.Marks.{marks_from}
use Rattle.px_table.specs.Once.{each_once}
use Rattle.px_table.specs.Parameters.{is_parameter, step_terms, goal_terms, row_terms}
use Rattle.px_table.specs.Supports.{variables}
use Rattle.px_table.specs.Tables.{rows_of}
use Rattle.px_table.specs.WellSorted.{sorts_by_places}

-- ---- which steps are kept. A pair is the number of a step, counted from 1, and the place of one of its adds

-- the step of that number is needed for the adds: one of them is its own, or the row of a needed step rests on one of its adds
pub data IsNeededStep (table : Table) (wanted : List (ℕ × ℕ)) : ℕ → Type 0 where
  asked : {k : ℕ} → (index : ℕ) → Contains wanted (k, index) → IsNeededStep table wanted k
  rested_on : {k row : ℕ} → IsNeededStep table wanted row → (mark : Mark) → Contains table.marks mark → mark.row ≡ row → mark.column ≡ k
      → 1 ≤ k → IsNeededStep table wanted k

-- the numbers of the steps that are needed, ascending
pub record AreKeptSteps (table : Table) (wanted : List (ℕ × ℕ)) (kept : List ℕ) : Type 0 where
  pub in_order : IsStrictlyIncreasing kept
  pub needed : (k : ℕ) → Contains kept k ↔ IsNeededStep table wanted k

-- ---- what they become

-- the things of the kept steps, where the first thing is that of step 1
abbrev pub kept_of : {A : Type 0} → A → List ℕ → List A → List A
kept_of missing kept things = map (λ k. slice_index_or things (k - 1) missing) kept

abbrev pub no_step : OpInst
no_step = record { op = 0; args = [] }

-- the number that a step has among the kept ones; the initial model stays 0
abbrev pub new_number : List ℕ → ℕ → ℕ
new_number kept k = count_by (λ j. nat_le j k) kept

abbrev pub leaf_in_column : (ℕ → ℕ) → Leaf → Leaf
leaf_in_column renumber leaf = record { column = renumber leaf.column; index = leaf.index; atom = leaf.atom }

-- the derivation, its leaves in other columns
abbrev mutual
  pub in_columns : (ℕ → ℕ) → Derivation → Derivation
  in_columns renumber (fact leaf) = fact (leaf_in_column renumber leaf)
  in_columns renumber (ancestor i) = ancestor i
  in_columns renumber (step number theta place parts) = step number theta place (all_in_columns renumber parts)
  in_columns renumber (gap atom) = gap atom
  in_columns renumber open_place = open_place

  pub all_in_columns : (ℕ → ℕ) → Derivations → Derivations
  all_in_columns renumber none = none
  all_in_columns renumber (also d ds) = also (in_columns renumber d) (all_in_columns renumber ds)

-- the atom that the step of a pair adds at its place
abbrev pub wanted_atom : Problem → Table → ℕ × ℕ → Atom
wanted_atom problem table pair = slice_index_or (adds problem (slice_index_or table.steps (pair.0 - 1) no_step)) pair.1 no_atom

-- it is proved by the fact that the step adds it
abbrev pub wanted_fact : Problem → Table → List ℕ → ℕ × ℕ → Derivation
wanted_fact problem table kept pair =
    fact (record { column = new_number kept pair.0; index = pair.1; atom = wanted_atom problem table pair })

abbrev pub kept_steps : Table → List ℕ → List OpInst
kept_steps table kept = kept_of no_step kept table.steps

abbrev pub wanted_atoms : Problem → Table → List (ℕ × ℕ) → List Atom
wanted_atoms problem table wanted = map (wanted_atom problem table) wanted

-- the rows of the kept steps, and last one of facts for the adds that are wanted
abbrev pub kept_rows : Problem → Table → List (ℕ × ℕ) → List ℕ → List (List Derivation)
kept_rows problem table wanted kept = map (map (in_columns (new_number kept))) (kept_of [] kept (rows_of table.proofs))
    ++ map (wanted_fact problem table kept) wanted ∷ []

-- ---- which parameters are left, and how they are numbered

-- the terms of the marks, then those of the steps, the goal and the rows
abbrev pub terms_of_parts : List OpInst → List Atom → List (List Derivation) → List Term
terms_of_parts steps goal rows =
    flat_map (λ (mark : Mark). mark.atom.args) (marks_from 1 rows) ++ (step_terms steps ++ (goal_terms goal ++ row_terms rows))

-- the parameters that occur, each where it stands first
abbrev pub parameters_in : ℕ → List Term → List Term
parameters_in params terms = each_once term_eq (filter (is_parameter params) terms)

-- the parameter of the place at which the term stands first, where the first place has that number; the wild card where it stands nowhere
abbrev pub place_name : ℕ → List Term → Term → Term
place_name first [] term = WildCard
place_name first (t ∷ terms) term = cond (term_eq t term) (Var first) (place_name (suc first) terms term)

-- a name for each parameter: the parameter of its place among those that are left
abbrev pub names_by : ℕ → List Term → List Term
names_by params left = map (place_name 0 left) (variables params)

abbrev pub left_parameters : Problem → Table → List (ℕ × ℕ) → List ℕ → List Term
left_parameters problem table wanted kept = parameters_in table.params
    (terms_of_parts (kept_steps table kept) (wanted_atoms problem table wanted) (kept_rows problem table wanted kept))

-- ---- the edited table

-- The table of these steps, this goal and these rows with the names for the parameters. Each parameter that is left has the sort of the
-- places of the steps at which it stands, or 0 where none has a sort.
pub record IsRenamedTable (problem : Problem) (names : List Term) (steps : List OpInst) (goal : List Atom) (rows : List (List Derivation))
    (made : Table) : Type 0 where
  pub steps_are : made.steps ≡ map (substitute_instance names) steps
  pub goal_is : made.goal ≡ map (substitute_atom names) goal
  pub goal_variable_count : made.goal_variable_count ≡ 0
  pub rows_are : rows_of made.proofs ≡ map (map (derivation_under names)) rows
  pub marks_are : made.marks ≡ marks_from 1 (rows_of made.proofs)
  pub sorts_are : made.param_sorts ≡ sorts_by_places problem made.steps made.params

-- Of the table the steps that the wanted adds rest on, with these adds for its goal. Only the parameters that still occur are left, in
-- the order in which they first occur.
pub record IsEdited (problem : Problem) (table : Table) (wanted : List (ℕ × ℕ)) (edited : Table) : Type 0 where
  pub kept : List ℕ
  pub are_kept : AreKeptSteps table wanted kept
  pub params : edited.params ≡ length (left_parameters problem table wanted kept)
  pub renamed : IsRenamedTable problem (names_by table.params (left_parameters problem table wanted kept)) (kept_steps table kept)
      (wanted_atoms problem table wanted) (kept_rows problem table wanted kept) edited
