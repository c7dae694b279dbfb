-- From bindings to names: what each fresh variable is bound to, and the parameters that stand for the roots.
use Rattle.std.specs.Prelude.{◌≡◌, ◌↔◌, ◌<◌, ℕ, Bool, true, false, Some, List, ◌++◌, map, filter, flat_map, count_by, slice_index_or, length, slice_get, Contains}
use Rattle.px_terms.specs.declared.atom.Atom.{Atom}
use Rattle.px_terms.specs.declared.term.Term.{Term}
use Rattle.px_terms.specs.declared.term.Term.TheVariants.{Obj, Var, Any as WildCard}
use Rattle.px_terms.specs.Language.{substitute}
use Rattle.px_unify.specs.declared.change.Change.{Change}
use Rattle.px_unify.specs.Changes.{AreOneUnder, Fits, HasSolutions, IsRoot, MakesEachEqual, variables_of}
use Rattle.px_terms.specs.declared.instance.OpInst.{OpInst}
use Rattle.px_terms.specs.declared.problem.Problem.{Problem}
use Rattle.px_terms.specs.Order.{term_eq}
use Rattle.px_proof.specs.declared.proof.Leaf.{Leaf}
use Rattle.px_proof.specs.Derivation.{Derivation, terms_of}
use Rattle.px_table.specs.declared.table.Table.{Table}
use Rattle.px_proof.specs.Substitution.{derivation_under}
use Rattle.px_terms.specs.Substitution.{substitute_instance, variables_from}
use Rattle.px_table.specs.Marks.{marks_from, row_leaves}
use Rattle.px_table.specs.Tables.{rows_of}
use Rattle.px_table.specs.WellSorted.{sorts_by_places}
use Rattle.px_table.specs.Once.{each_once}
use Rattle.px_table.specs.Supports.{variables}
use Rattle.px_general.specs.General.{is_parameter}
use Rattle.px_replay.specs.Opened.{goal_objects, named_goal, rows_opened, step_variables, steps_opened}

-- what each variable is bound to in the end: an object, or a variable that is not bound
pub record IsResolved (changes : List Change) (resolved : List Term) : Type 0 where
  pub count : length resolved ≡ variables_of changes
  pub value : (v : ℕ) → v < variables_of changes → AreOneUnder changes (Var v) (substitute resolved (Var v))
  pub root : (v : ℕ) → v < variables_of changes → IsRoot changes (substitute resolved (Var v))

-- the root at place p has the label that is parameter p
abbrev pub AreLabelled : List Term → List Term → Type 0
AreLabelled roots labels = (v p : ℕ) → slice_get labels v ≡ Some (Var p) → slice_get roots p ≡ Some (Var v)

-- The names of the variables are the labels of what they are bound to. Each root of the terms has a label.
pub record AreNamed (changes : List Change) (at resolved labels names roots : List Term) : Type 0 where
  pub resolved_are : IsResolved changes resolved
  pub long : length labels ≡ variables_of changes
  pub labelled : AreLabelled roots labels
  pub each_root : (t : Term) → Contains at t → (v : ℕ) → substitute resolved t ≡ Var v → (p : ℕ) × (slice_get labels v ≡ Some (Var p))
  pub names_are : names ≡ map (substitute labels) resolved

-- ---- the order of the parameters

abbrev pub args_of_leaves : List Leaf → List Term
args_of_leaves leaves = flat_map (λ (leaf : Leaf). leaf.atom.args) leaves

-- the terms of the leaves of the rows, from left to right
abbrev pub leaf_terms : List (List Derivation) → List Term
leaf_terms rows = flat_map (λ (row : List Derivation). args_of_leaves (row_leaves row)) rows

-- the terms of the opened plan in the order in which parameters are numbered: those of the leaves by rows, of the steps, of
-- the goal's objects and of the proofs
abbrev pub walked_terms : Problem → Table → List Term
walked_terms problem plan =
    leaf_terms (rows_opened problem plan)
    ++ (flat_map (λ (inst : OpInst). inst.args) (steps_opened plan)
    ++ (variables_from (step_variables plan.steps) (goal_objects plan.goal)
    ++ flat_map (flat_map terms_of) (rows_opened problem plan)))

-- along the walk the names are the parameters in order, where each stands first
abbrev pub AreParametersNumbered : Problem → Table → List Term → ℕ → Type 0
AreParametersNumbered problem plan names params = each_once term_eq (filter (is_parameter params)
    (map (substitute names) (walked_terms problem plan))) ≡ variables params

abbrev pub is_variable_term : Term → Bool
is_variable_term (Obj n) = false
is_variable_term (Var v) = true
is_variable_term WildCard = false

-- the variables that the terms are bound to in the end, each where it stands first
abbrev pub roots_of : List Term → List Term → List Term
roots_of resolved walked = each_once term_eq (filter is_variable_term (map (substitute resolved) walked))

-- `next` labels were given along the walk: the root at place p has the label that is parameter p, and nothing else has one.
pub record AreLabels (resolved labels : List Term) (next : ℕ) (walked : List Term) : Type 0 where
  pub count : length (roots_of resolved walked) ≡ next
  pub exact : (v p : ℕ) → (slice_get labels v ≡ Some (Var p)) ↔ (slice_get (roots_of resolved walked) p ≡ Some (Var v))

-- The table is made of these steps and rows and of the plan's goal, with these names for the variables. Those of the goal's objects begin
-- at number `first`. The parameters' sorts are those of the places at which they stand.
pub record IsMadeOf (problem : Problem) (steps : List OpInst) (rows : List (List Derivation)) (first : ℕ) (plan general : Table)
    (names : List Term) : Type 0 where
  pub steps_are : general.steps ≡ map (substitute_instance names) steps
  pub goal_is : general.goal ≡ named_goal names general.params first plan.goal
  pub goal_variable_count : general.goal_variable_count ≡ plan.goal_variable_count
  pub rows_are : rows_of general.proofs ≡ map (map (derivation_under names)) rows
  pub marks_are : general.marks ≡ marks_from 1 (rows_of general.proofs)
  pub sorts_are : general.param_sorts ≡ sorts_by_places problem general.steps general.params

-- the table is made of the opened plan with these names
abbrev pub IsBuilt : Problem → Table → Table → List Term → Type 0
IsBuilt problem plan general names =
    IsMadeOf problem (steps_opened plan) (rows_opened problem plan) (step_variables plan.steps) plan general names

-- Bindings of this number of variables fit exactly what makes the pairs equal, and each variable was followed to its end in them.
pub record IsSolvedBy (changes : List Change) (pairs : List (Atom × Atom)) (count : ℕ) (resolved : List Term) : Type 0 where
  pub solutions : HasSolutions changes
  pub fits : (terms : List Term) → Fits terms changes ↔ MakesEachEqual pairs terms
  pub variables : variables_of changes ≡ count
  pub resolved_are : IsResolved changes resolved

abbrev pub IsSolutionOf : List (Atom × Atom) → ℕ → List Term → Type 0
IsSolutionOf pairs count resolved = (changes : List Change) × IsSolvedBy changes pairs count resolved

-- ---- how many labels are left

abbrev pub is_unlabelled : Term → Bool
is_unlabelled (Obj n) = true
is_unlabelled (Var v) = false
is_unlabelled WildCard = true

abbrev pub unlabelled : List Term → ℕ
unlabelled labels = count_by is_unlabelled labels

-- each root that the list has is the number of a place
abbrev pub HasRootsBelow : ℕ → List Term → Type 0
HasRootsBelow n resolved = (v w : ℕ) → slice_index_or resolved v WildCard ≡ Var w → w < n
