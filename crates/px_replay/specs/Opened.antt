-- A plan with a fresh variable for all that its shape leaves open, and the pairs of atoms that its replay has to make equal.
use Rattle.std.specs.Prelude.{◌+◌, ℕ, Some, None, List, [], ◌∷◌, ◌++◌, length, sum_by, flat_map, count_by, slice_get}
use Rattle.px_terms.specs.declared.atom.Atom.{Atom}
use Rattle.px_terms.specs.declared.clause.Clause.{Clause}
use Rattle.px_terms.specs.declared.instance.OpInst.{OpInst}
use Rattle.px_terms.specs.declared.problem.Problem.{Problem}
use Rattle.px_terms.specs.declared.term.Term.{Term}
use Rattle.px_terms.specs.declared.term.Term.TheVariants.{Obj, Var, Any as WildCard}
use Rattle.px_terms.specs.Language.{substitute}
use Rattle.px_terms.specs.Operators.{adds, precondition}
use Rattle.px_proof.specs.Derivation.{Derivation, no_atom, terms_of}
use Rattle.px_proof.specs.Literals.{positive_of}
use Rattle.px_table.specs.declared.table.Table.{Table}
use Rattle.px_table.specs.Marks.{step_at}
use Rattle.px_terms.specs.Substitution.{variables_from}
use Rattle.px_table.specs.Tables.{rows_of}
use Rattle.px_replay.specs.FreshVariables.{fresh_in, is_object}
use Rattle.px_replay.specs.Replay.{opened, pairs_of}

-- ---- steps, goal and rows

-- the steps with a fresh variable, from number `first` on, for each argument
abbrev pub opened_steps : ℕ → List OpInst → List OpInst
opened_steps first [] = []
opened_steps first (inst ∷ steps) = record { op = inst.op; args = variables_from first (length inst.args) } ∷ opened_steps
    (first + length inst.args) steps

-- terms with a fresh variable for each object; the goal's own variables become those from number `own` on
abbrev pub opened_args : ℕ → ℕ → List Term → List Term
opened_args first own [] = []
opened_args first own (Obj n ∷ ts) = Var first ∷ opened_args (first + 1) own ts
opened_args first own (Var v ∷ ts) = Var (own + v) ∷ opened_args first own ts
opened_args first own (WildCard ∷ ts) = WildCard ∷ opened_args first own ts

abbrev pub opened_goal : ℕ → ℕ → List Atom → List Atom
opened_goal first own [] = []
opened_goal first own (atom ∷ goal) = record { pred = atom.pred; args = opened_args first own atom.args } ∷ opened_goal
    (first + count_by is_object atom.args) own goal

-- The goal with the terms of a list, from number `first` on, for its objects from left to right; its own variables become those from
-- number `own` on.
abbrev pub named_term : List Term → ℕ → ℕ → Term → Term
named_term names own first (Obj n) = substitute names (Var first)
named_term names own first (Var v) = Var (own + v)
named_term names own first WildCard = WildCard

abbrev pub named_args : List Term → ℕ → ℕ → List Term → List Term
named_args names own first [] = []
named_args names own first (Obj n ∷ ts) = substitute names (Var first) ∷ named_args names own (first + 1) ts
named_args names own first (Var v ∷ ts) = Var (own + v) ∷ named_args names own first ts
named_args names own first (WildCard ∷ ts) = WildCard ∷ named_args names own first ts

abbrev pub named_goal : List Term → ℕ → ℕ → List Atom → List Atom
named_goal names own first [] = []
named_goal names own first (atom ∷ goal) = record { pred = atom.pred; args = named_args names own first atom.args } ∷ named_goal names own
    (first + count_by is_object atom.args) goal

abbrev pub opened_row : (ℕ → ℕ → Atom) → ℕ → List Derivation → List Derivation
opened_row named first [] = []
opened_row named first (d ∷ row) = opened named first d ∷ opened_row named (first + fresh_in d) row

abbrev pub opened_rows : (ℕ → ℕ → Atom) → ℕ → List (List Derivation) → List (List Derivation)
opened_rows named first [] = []
opened_rows named first (row ∷ rows) = opened_row named first row ∷ opened_rows named (first + sum_by fresh_in row) rows

abbrev pub atom_in : List Atom → ℕ → Atom
atom_in atoms k = elim (slice_get atoms k) [ None ↦ no_atom | Some atom ↦ atom ]

-- the add of that number of the step of that number
abbrev pub add_at : Problem → List OpInst → ℕ → ℕ → Atom
add_at problem steps column index = elim (step_at steps column) [ None ↦ no_atom | Some inst ↦ atom_in (adds problem inst) index ]

-- ---- where the fresh variables of each kind begin

abbrev pub step_variables : List OpInst → ℕ
step_variables steps = sum_by (λ (inst : OpInst). length inst.args) steps

abbrev pub goal_objects : List Atom → ℕ
goal_objects goal = sum_by (λ (atom : Atom). count_by is_object atom.args) goal

-- the steps' come first, then those of the goal's objects, then the goal's own variables, then those of the proofs
abbrev pub first_own : Table → ℕ
first_own plan = step_variables plan.steps + goal_objects plan.goal

abbrev pub first_of_rows : Table → ℕ
first_of_rows plan = first_own plan + plan.goal_variable_count

abbrev pub steps_opened : Table → List OpInst
steps_opened plan = opened_steps 0 plan.steps

abbrev pub goal_opened : Table → List Atom
goal_opened plan = opened_goal (step_variables plan.steps) (first_own plan) plan.goal

abbrev pub rows_opened : Problem → Table → List (List Derivation)
rows_opened problem plan = opened_rows (add_at problem (steps_opened plan)) (first_of_rows plan) (rows_of plan.proofs)

-- the terms that the opened table has, apart from the goal's own variables
abbrev pub opened_terms : Problem → Table → List Term
opened_terms problem plan =
    flat_map (λ (inst : OpInst). inst.args) (steps_opened plan)
    ++ (variables_from (step_variables plan.steps) (goal_objects plan.goal)
    ++ flat_map (flat_map terms_of) (rows_opened problem plan))

-- ---- the replay

-- the pairs of the proofs of these atoms
abbrev pub row_pairs : List Clause → List Atom → List Derivation → List (Atom × Atom)
row_pairs axioms [] row = []
row_pairs axioms (atom ∷ atoms) [] = []
row_pairs axioms (atom ∷ atoms) (d ∷ row) = pairs_of axioms [] (positive_of atom) d ++ row_pairs axioms atoms row

-- row by row, the pairs of the proofs of each step's precondition, and at the end those of the goal's
abbrev pub rows_pairs : Problem → List OpInst → List Atom → List (List Derivation) → List (Atom × Atom)
rows_pairs problem steps goal [] = []
rows_pairs problem [] goal (row ∷ rows) = row_pairs problem.axioms goal row
rows_pairs problem (inst ∷ steps) goal (row ∷ rows) = row_pairs problem.axioms (precondition problem inst) row ++ rows_pairs problem steps
    goal rows

-- all that the replay of the plan has to make equal
abbrev pub replay_pairs : Problem → Table → List (Atom × Atom)
replay_pairs problem plan = rows_pairs problem (steps_opened plan) (goal_opened plan) (rows_opened problem plan)
