-- From the parts of a generalisation to the general table.
use Rattle.std.specs.Prelude.{◌≡◌, ◌⊎◌, ◌+◌, ◌<◌, ◌≤◌, ℕ, Some, None, List, [], ◌∷◌, ◌++◌, map, take, drop, length, replicate, slice_get, cond, All}
use Rattle.std.proofs.Common.{zero, suc, refl, sym, ap, ◌∙◌, subst, inl, inr, arith}
use Rattle.std.proofs.lemmas.List.Elements.{All-nil, All-cons, All-append, All-replicate}
use Rattle.std.proofs.lemmas.List.{length-map}
use Rattle.std.proofs.lemmas.List.Sums.{sum_by-cons}
use Rattle.px_base.specs.Bounds.{u32_max}
use Rattle.px_terms.specs.declared.atom.Atom.{Atom}
use Rattle.px_terms.specs.declared.instance.OpInst.{OpInst}
use Rattle.px_terms.specs.declared.problem.Problem.{Problem}
use Rattle.px_terms.specs.declared.term.Term.{Term}
use Rattle.px_terms.specs.declared.term.Term.TheVariants.{Obj, Var, Any as WildCard}
use Rattle.px_terms.specs.Language.{IsPlainBelow, IsVariableBelow, substitute}
use Rattle.px_terms.specs.Validity.{IsValid}
use Rattle.px_unify.specs.declared.change.Change.{Change}
use Rattle.px_unify.specs.declared.change.Change.TheVariants.{Fresh}
use Rattle.px_unify.specs.Changes.{Fits, HasSolutions, IsRoot, IsUnbound, Meets, slots_of, variables_of}
use Rattle.px_unify.specs.ChangeLaws.{variables-fresh}
use Rattle.px_proof.specs.PlaceLaws.{All-back, All-prefix, slice_get-within}
use Rattle.px_proof.specs.declared.proof.Proof.{Proof}
use Rattle.px_proof.specs.Derivation.{Derivation}
use Rattle.px_proof.specs.ProofTerm.{derivation_of}
use Rattle.px_table.specs.declared.table.Table.{Table}
use Rattle.px_terms.specs.Substitution.{variables_from}
use Rattle.px_table.specs.Tables.{IsTable, rows_of}
use Rattle.px_table.proofs.Layers.{plain_variable}
use Rattle.px_replay.specs.FreshVariables.{fresh_variables}
use Rattle.px_replay.specs.Opened.{goal_objects, goal_opened, opened_terms, replay_pairs, rows_opened, rows_pairs, step_variables, steps_opened}
use Rattle.px_replay.specs.Replaying.{CanReplayRows, IsReplayOf}
use Rattle.px_replay.proofs.RowSteps.{plan_forms-length}
use Rattle.px_general.specs.General.{Generalises, KeepsPlan, row_terms, step_terms}
use Rattle.px_general.specs.Naming.{AreLabels, HasRootsBelow, IsBuilt, IsMadeOf, IsResolved, IsSolutionOf, is_unlabelled, leaf_terms, unlabelled, walked_terms}
use Rattle.px_general.proofs.Counting.{can_replay}
use Rattle.px_general.proofs.Labelling.{general-is, leaf_terms-among}
use Rattle.px_general.proofs.Reading.{less_or_not, read-past}
use Rattle.px_general.proofs.GeneralTable.{length-opened_steps}

-- ---- fresh variables

pub fresh-variables : (count : ℕ) → variables_of (replicate count Fresh) ≡ count
fresh-variables count = variables-fresh [] count ∙ plus_none
  where
    plus_none : variables_of [] + count ≡ count
    plus_none = omega arith

pub fresh-fit : (count : ℕ) (sigma : List Term) → Fits sigma (replicate count Fresh)
fresh-fit count sigma = All-replicate (Meets sigma) count Fresh tt

pub fresh-solutions : (count : ℕ) → HasSolutions (replicate count Fresh)
fresh-solutions count = λ chosen long. (chosen, long, fresh-fit count chosen, λ v unbound. refl)

-- after the replay what fits the bindings is what makes the pairs equal
pub solved-by : (count : ℕ) (changes : List Change) (pairs : List (Atom × Atom)) (resolved : List Term)
    → IsReplayOf (replicate count Fresh) changes pairs → IsResolved changes resolved → IsSolutionOf pairs count resolved
solved-by count changes pairs resolved replay are = (
  changes,
  record {
    solutions = replay.solvable;
    fits = λ terms. ((λ fits. ((replay.narrowed terms).0 fits).1), λ equal. (replay.narrowed terms).1 (fresh-fit count terms, equal));
    variables = replay.grows.variables ∙ fresh-variables count;
    resolved_are = are;
  },
)

-- ---- roots

root_number : (changes : List Change) (w : ℕ) → IsUnbound changes w → w < variables_of changes
root_number changes w unbound = slice_get-within (slots_of changes) w None unbound

-- what a variable is bound to in the end is an object or one of the variables
pub roots-below : (changes : List Change) (resolved : List Term) → IsResolved changes resolved → HasRootsBelow (length resolved) resolved
roots-below changes resolved are v w is = by_place (less_or_not v (length resolved))
  where
    by_place : (v < length resolved) ⊎ (length resolved ≤ v) → w < length resolved
    by_place (inl below) =
        let rooted : IsRoot changes (Var w) = subst (IsRoot changes) is (are.root v (subst (λ (n : ℕ). v < n) are.count below)) in
        subst (λ (n : ℕ). w < n) (sym are.count) (root_number changes w rooted)
    by_place (inr far) = absurd (no_wild_card (sym (read-past resolved v far) ∙ is))
      where
        no_wild_card : ¬ (WildCard ≡ Var w)
        no_wild_card e = cc

pub resolved-below : (n : ℕ) (resolved : List Term) → HasRootsBelow n resolved → All (IsVariableBelow n) resolved
resolved-below n [] below = All-nil (IsVariableBelow n)
resolved-below n (t ∷ ts) below = All-cons (IsVariableBelow n) t ts (here t refl) (resolved-below n ts (λ v w is. below (suc v) w is))
  where
    here : (u : Term) → t ≡ u → IsVariableBelow n u
    here (Obj m) e = tt
    here (Var w) e = below zero w e
    here WildCard e = tt

-- ---- labels

unlabelled_at : (count v p : ℕ) → ¬ (slice_get (replicate count WildCard) v ≡ Some (Var p))
unlabelled_at zero v p at = cc
unlabelled_at (suc count) zero p at = cc
unlabelled_at (suc count) (suc v) p at = unlabelled_at count v p at

-- at first nothing has a label
pub first-labels : (resolved : List Term) (count : ℕ) → AreLabels resolved (replicate count WildCard) 0 []
first-labels resolved count = record {
  count = refl;
  exact = λ v p. ((λ at. absurd (unlabelled_at count v p at)), λ at. absurd (cc));
}

-- what is written back of a borrowed list is the whole
pub written_back : (len : ℕ) (made old : List Term) → len ≡ length made → take len (made ++ drop (length made) old) ≡ made
written_back len made old same = ap (λ (n : ℕ). take n (made ++ drop (length made) old)) same ∙ prefix made (drop (length made) old)
  where
    prefix : (xs ys : List Term) → take (length xs) (xs ++ ys) ≡ xs
    prefix [] ys = refl
    prefix (x ∷ xs) ys = ap (λ (l : List Term). x ∷ l) (prefix xs ys)

-- ---- the opened plan

variables-below : (n : ℕ) (ts : List Term) → All (IsPlainBelow n) ts → All (IsVariableBelow n) ts
variables-below n ts all k d below = plain_variable n _ (all k d below)

module _ (problem : Problem) (plan : Table) (valid : IsValid problem) (is_table : IsTable problem plan) (no_params : plan.params ≡ 0)
    (count : ℕ) (counted : count ≡ fresh_variables plan) where
  both : CanReplayRows problem (steps_opened plan) (goal_opened plan) (rows_opened problem plan) (replicate count Fresh)
      × All (IsPlainBelow (variables_of (replicate count Fresh))) (opened_terms problem plan)
  both =
      can_replay problem plan (replicate count Fresh) valid is_table no_params (ap (λ (n : ℕ). replicate n Fresh) counted)
      (fresh-solutions count)

  pub plan_can : CanReplayRows problem (steps_opened plan) (goal_opened plan) (rows_opened problem plan) (replicate count Fresh)
  plan_can = both.0

  pub terms_below : All (IsPlainBelow count) (opened_terms problem plan)
  terms_below = subst (λ (n : ℕ). All (IsPlainBelow n) (opened_terms problem plan)) (fresh-variables count) both.1

  later_below : All (IsPlainBelow count) (variables_from (step_variables plan.steps) (goal_objects plan.goal)
      ++ row_terms (rows_opened problem plan))
  later_below = All-back (IsPlainBelow count) (step_terms (steps_opened plan)) _ terms_below

  pub rows_below : All (IsPlainBelow count) (row_terms (rows_opened problem plan))
  rows_below = All-back (IsPlainBelow count) (variables_from (step_variables plan.steps) (goal_objects plan.goal)) _ later_below

  pub steps_below : All (IsPlainBelow count) (step_terms (steps_opened plan))
  steps_below = All-prefix (IsPlainBelow count) (step_terms (steps_opened plan)) _ terms_below

  pub walked_below : All (IsVariableBelow count) (walked_terms problem plan)
  walked_below =
      variables-below count (walked_terms problem plan)
      (All-append (IsPlainBelow count) (leaf_terms (rows_opened problem plan)) (opened_terms problem plan)
      (leaf_terms-among (IsPlainBelow count) (rows_opened problem plan) rows_below) terms_below)

  -- all together
  pub made_general : (general : Table) (resolved labels : List Term) → IsSolutionOf (replay_pairs problem plan) count resolved
      → length labels ≡ length resolved → AreLabels resolved labels general.params (walked_terms problem plan)
      → IsBuilt problem plan general (map (substitute labels) resolved) → Generalises problem plan general × KeepsPlan problem plan general
  made_general general resolved labels solution long are built =
      let changes = solution.0 in
      let solved = solution.1 in
      general-is problem plan general changes resolved labels valid is_table no_params solved.solutions solved.fits
      (subst (λ (n : ℕ). All (IsPlainBelow n) (opened_terms problem plan)) (sym solved.variables) terms_below)
      solved.resolved_are (long ∙ solved.resolved_are.count) are built

-- ---- the parts as they are made

module _ (problem : Problem) (plan : Table) (steps : List OpInst) (goal : List Atom) (rows : List (List Proof))
    (steps_are : steps ≡ steps_opened plan) (goal_are : goal ≡ goal_opened plan) (rows_are : rows_of rows ≡ rows_opened problem plan) where
  -- what is said of the plan's own is said of these
  along : (P : List OpInst → List Atom → List (List Derivation) → Type 0)
      → P (steps_opened plan) (goal_opened plan) (rows_opened problem plan) → P steps goal (rows_of rows)
  along P holds =
      subst (λ (s : List OpInst). P s goal (rows_of rows)) (sym steps_are)
      (subst (λ (g : List Atom). P (steps_opened plan) g (rows_of rows)) (sym goal_are)
      (subst (λ (r : List (List Derivation)). P (steps_opened plan) (goal_opened plan) r) (sym rows_are) holds))

  back : (P : List OpInst → List Atom → List (List Derivation) → Type 0) → P steps goal (rows_of rows)
      → P (steps_opened plan) (goal_opened plan) (rows_opened problem plan)
  back P holds =
      subst (λ (s : List OpInst). P s (goal_opened plan) (rows_opened problem plan)) steps_are
      (subst (λ (g : List Atom). P steps g (rows_opened problem plan)) goal_are
      (subst (λ (r : List (List Derivation)). P steps goal r) rows_are holds))

  pub can_here : (changes : List Change) → CanReplayRows problem (steps_opened plan) (goal_opened plan) (rows_opened problem plan) changes
      → CanReplayRows problem steps goal (rows_of rows) changes
  can_here changes can = along (λ s g r. CanReplayRows problem s g r changes) can

  pub solution_back : (count : ℕ) (resolved : List Term) → IsSolutionOf (rows_pairs problem steps goal (rows_of rows)) count resolved
      → IsSolutionOf (replay_pairs problem plan) count resolved
  solution_back count resolved solution = back (λ s g r. IsSolutionOf (rows_pairs problem s g r) count resolved) solution

  pub walked_is : (first objects : ℕ) (walked : List Term) → first ≡ step_variables plan.steps → objects ≡ goal_objects plan.goal
      → walked ≡ leaf_terms (rows_of rows) ++ (step_terms steps ++ (variables_from first objects ++ row_terms (rows_of rows)))
      → walked ≡ walked_terms problem plan
  walked_is first objects walked first_is objects_are is =
      is ∙ ap (λ (r : List (List Derivation)). leaf_terms r ++ (step_terms steps ++ (variables_from first objects ++ row_terms r))) rows_are
      ∙ ap (λ (s : List OpInst). leaf_terms (rows_opened problem plan)
      ++ (step_terms s ++ (variables_from first objects ++ row_terms (rows_opened problem plan)))) steps_are
      ∙ ap (λ (n : ℕ). leaf_terms (rows_opened problem plan)
      ++ (step_terms (steps_opened plan) ++ (variables_from n objects ++ row_terms (rows_opened problem plan)))) first_is
      ∙ ap (λ (n : ℕ). leaf_terms (rows_opened problem plan)
      ++ (step_terms (steps_opened plan) ++ (variables_from (step_variables plan.steps) n ++ row_terms (rows_opened problem plan))))
      objects_are

  pub built_is : (first : ℕ) (general : Table) (names : List Term) → first ≡ step_variables plan.steps
      → IsMadeOf problem steps (rows_of rows) first plan general names → IsBuilt problem plan general names
  built_is first general names first_is made =
      subst (λ (n : ℕ). IsMadeOf problem (steps_opened plan) (rows_opened problem plan) n plan general names) first_is
      (back (λ s g r. IsMadeOf problem s r first plan general names) made)

pub length-resolved : (pairs : List (Atom × Atom)) (count : ℕ) (resolved : List Term) → IsSolutionOf pairs count resolved
    → length resolved ≡ count
length-resolved pairs count resolved solution = solution.1.resolved_are.count ∙ solution.1.variables

pub solution_roots : (pairs : List (Atom × Atom)) (count : ℕ) (resolved : List Term) → IsSolutionOf pairs count resolved
    → HasRootsBelow (length resolved) resolved
solution_roots pairs count resolved solution = roots-below solution.0 resolved solution.1.resolved_are

pub variables_all : (n m : ℕ) (ts : List Term) → n ≡ m → All (IsPlainBelow n) ts → All (IsVariableBelow m) ts
variables_all n m ts same all = variables-below m ts (subst (λ (k : ℕ). All (IsPlainBelow k) ts) same all)

-- ---- how many rows

pub few_rows : (problem : Problem) (plan : Table) (rows : List (List Proof)) (changes : List Change) → IsTable problem plan
    → rows_of rows ≡ rows_opened problem plan
    → CanReplayRows problem (steps_opened plan) (goal_opened plan) (rows_opened problem plan) changes → length rows ≤ u32_max
few_rows problem plan rows changes is_table rows_are can =
    let long = plan_forms-length problem (steps_opened plan) (goal_opened plan) (rows_opened problem plan) can.forms in
    omega (arith, is_table.in_range.short, long, length-opened_steps 0 plan.steps, ap length rows_are, length-map rows (map derivation_of))
