-- From as many fresh variables as are counted the whole plan can be replayed.
use Rattle.std.specs.Prelude.{◌≡◌, ◌+◌, ◌<◌, ◌≤◌, ℕ, Option, Some, None, List, [], ◌∷◌, map, length, flat_map, sum_by, count_by, slice_get, slice_index_or, replicate, All}
use Rattle.std.proofs.Common.{zero, suc, refl, sym, ap, ◌∙◌, subst, inl, inr, arith}
use Rattle.std.specs.List.{AllZip}
use Rattle.std.proofs.lemmas.List.Elements.{All-nil, All-cons, All-head, All-tail, All-append, All-map, All-replicate}
use Rattle.std.proofs.lemmas.List.Sums.{sum_by-cons}
use Rattle.px_terms.specs.declared.atom.Atom.{Atom}
use Rattle.px_terms.specs.declared.clause.Clause.{Clause}
use Rattle.px_terms.specs.declared.clause.Lit.{Lit}
use Rattle.px_terms.specs.declared.instance.OpInst.{OpInst}
use Rattle.px_terms.specs.declared.problem.Problem.{Problem}
use Rattle.px_terms.specs.declared.term.Term.{Term}
use Rattle.px_terms.specs.declared.term.Term.TheVariants.{Obj, Var, Any as WildCard}
use Rattle.px_terms.specs.Language.{substitute, IsPlainBelow}
use Rattle.px_terms.specs.Operators.{adds, precondition, schema_of}
use Rattle.px_terms.specs.Substitution.{substitute_atom, variables_from}
use Rattle.px_terms.specs.Validity.{IsAtomOf, IsTermOf, IsValid}
use Rattle.px_unify.specs.declared.change.Change.{Change}
use Rattle.px_unify.specs.declared.change.Change.TheVariants.{Fresh}
use Rattle.px_unify.specs.Changes.{Fits, HasSolutions, Meets, variables_of}
use Rattle.px_unify.specs.ChangeLaws.{variables-fresh}
use Rattle.px_proof.specs.Derivation.{Derivation, Derivations, fact, ancestor, step, gap, open_place, none, also, leaves_of, leaf_atoms, no_atom, terms_of, all_terms_of}
use Rattle.px_proof.specs.Literals.{positive_of}
use Rattle.px_proof.specs.PlaceLaws.{All-got}
use Rattle.px_proof.specs.Proves.{IsObjectOrParameter, Proves, ProvesEach, from_atoms}
use Rattle.px_table.specs.declared.table.Table.{Table}
use Rattle.px_table.specs.Marks.{step_at}
use Rattle.px_table.specs.Supports.{ProvesEachOf, RowsProve}
use Rattle.px_table.specs.Tables.{IsStepOf, IsTable, rows_of}
use Rattle.px_terms.proofs.VariableLemmas.{length-variables}
use Rattle.px_replay.specs.FreshVariables.{all_fresh_in, fresh_in, fresh_variables, is_object}
use Rattle.px_replay.specs.Opened.{add_at, atom_in, first_of_rows, first_own, goal_objects, goal_opened, opened_args, opened_goal, opened_row, opened_rows, opened_steps, opened_terms, rows_opened, step_variables, steps_opened}
use Rattle.px_replay.specs.Replay.{opened, all_opened}
use Rattle.px_replay.specs.Replaying.{ArePlainAtoms, CanReplayRows, PlanForms, RowForms}
use Rattle.px_general.proofs.PlanInstance.{plan-own}
use Rattle.px_general.proofs.Opening.{zero_test}
use Rattle.px_general.proofs.OpenedForms.{form-opened}
use Rattle.px_replay.proofs.ReplaySteps.{below_under}
use Rattle.px_general.proofs.Solving.{AreAlike, count-object, count-variable, goal_opened-alike, preconditions-alike}

-- ---- variables below a number

pub variables-below : (n first count : ℕ) → first + count ≤ n → All (IsPlainBelow n) (variables_from first count)
variables-below n first zero within = All-nil (IsPlainBelow n)
variables-below n first (suc count) within =
    All-cons (IsPlainBelow n) (Var first) (variables_from (suc first) count) (omega (arith, within))
    (variables-below n (suc first) count (omega (arith, within)))

-- a step that is one of its operator, over plain terms
pub record IsPlainStep (problem : Problem) (n : ℕ) (inst : OpInst) : Type 0 where
  pub op : inst.op < length problem.schemas
  pub count : length inst.args ≡ (schema_of problem inst).params
  pub below : All (IsPlainBelow n) inst.args

steps-plain : (problem : Problem) (n first : ℕ) (steps : List OpInst) → All (IsStepOf problem 0) steps → first + step_variables steps ≤ n
    → All (IsPlainStep problem n) (opened_steps first steps)
steps-plain problem n first [] are within = All-nil (IsPlainStep problem n)
steps-plain problem n first (s ∷ steps) are within =
    let here = All-head (IsStepOf problem 0) s steps are in
    let counted = sum_by-cons (λ (inst : OpInst). length inst.args) s steps in
    All-cons (IsPlainStep problem n) _ _
    record {
      op = here.op;
      count = length-variables first (length s.args)
          ∙ here.count;
      below = variables-below n first (length s.args) (omega (arith, within, counted));
    }
    (steps-plain problem n (first + length s.args) steps (All-tail (IsStepOf problem 0) s steps are) (omega (arith, within, counted)))

steps_terms-below : (problem : Problem) (n : ℕ) (steps : List OpInst) → All (IsPlainStep problem n) steps
    → All (IsPlainBelow n) (flat_map (λ (inst : OpInst). inst.args) steps)
steps_terms-below problem n [] all = All-nil (IsPlainBelow n)
steps_terms-below problem n (s ∷ steps) all =
    All-append (IsPlainBelow n) s.args _ (All-head (IsPlainStep problem n) s steps all).below
    (steps_terms-below problem n steps (All-tail (IsPlainStep problem n) s steps all))

term-plain : (problem : Problem) (variable_count : ℕ) (t : Term) → IsTermOf problem variable_count t → IsPlainBelow variable_count t
term-plain problem variable_count (Obj m) is = tt
term-plain problem variable_count (Var v) is = is
term-plain problem variable_count WildCard is = absurd is

-- an atom of an operator under plain terms is plain
atoms-plain : (problem : Problem) (n : ℕ) (theta : List Term) (variable_count : ℕ) → length theta ≡ variable_count → All (IsPlainBelow n) theta
    → (atoms : List Atom) → All (IsAtomOf problem variable_count) atoms → ArePlainAtoms n (map (substitute_atom theta) atoms)
atoms-plain problem n theta variable_count long below [] are = All-nil (λ (a : Atom). All (IsPlainBelow n) a.args)
atoms-plain problem n theta variable_count long below (a ∷ atoms) are =
    let here = All-head (IsAtomOf problem variable_count) a atoms are in
    All-cons (λ (a : Atom). All (IsPlainBelow n) a.args) _ _
    (All-map (IsPlainBelow n) (substitute theta) a.args
    (λ k d inside. below_under n theta below _ (subst (λ (m : ℕ). IsPlainBelow m (slice_index_or a.args k d)) (sym long)
    (term-plain problem variable_count _ (here.1 k d inside)))))
    (atoms-plain problem n theta variable_count long below atoms (All-tail (IsAtomOf problem variable_count) a atoms are))

precondition-plain : (problem : Problem) → IsValid problem → (n : ℕ) (inst : OpInst) → IsPlainStep problem n inst
    → ArePlainAtoms n (precondition problem inst)
precondition-plain problem valid n inst is =
    atoms-plain problem n inst.args (schema_of problem inst).params is.count is.below (schema_of problem inst).pre
    (valid.schemas inst.op is.op).pre

adds-plain : (problem : Problem) → IsValid problem → (n : ℕ) (inst : OpInst) → IsPlainStep problem n inst
    → ArePlainAtoms n (adds problem inst)
adds-plain problem valid n inst is =
    atoms-plain problem n inst.args (schema_of problem inst).params is.count is.below (schema_of problem inst).add
    (valid.schemas inst.op is.op).add

abbrev args_of : Atom → List Term
args_of atom = atom.args

add_at-plain : (problem : Problem) → IsValid problem → (n : ℕ) (steps : List OpInst) → All (IsPlainStep problem n) steps
    → (column index : ℕ) → All (IsPlainBelow n) (add_at problem steps column index).args
add_at-plain problem valid n steps all column index = by_step (step_at steps column) refl
  where
    none_below : All (IsPlainBelow n) no_atom.args
    none_below = All-nil (IsPlainBelow n)

    by_add : (atoms : List Atom) → ArePlainAtoms n atoms → All (IsPlainBelow n) (atom_in atoms index).args
    by_add atoms plain = at_place (slice_get atoms index) refl
      where
        at_place : (o : Option Atom) → slice_get atoms index ≡ o
            → All (IsPlainBelow n) (args_of (elim o [ None ↦ no_atom | Some atom ↦ atom ]))
        at_place None e = none_below
        at_place (Some atom) e = All-got (λ (a : Atom). All (IsPlainBelow n) a.args) atoms index atom plain e

    got : (k : ℕ) (inst : OpInst) → step_at steps k ≡ Some inst → IsPlainStep problem n inst
    got zero inst e = absurd (cc)
    got (suc k) inst e = All-got (IsPlainStep problem n) steps k inst all e

    by_step : (o : Option OpInst) → step_at steps column ≡ o
        → All (IsPlainBelow n) (args_of (elim o [ None ↦ no_atom | Some inst ↦ atom_in (adds problem inst) index ]))
    by_step None e = none_below
    by_step (Some inst) e = by_add (adds problem inst) (adds-plain problem valid n inst (got column inst e))

-- ---- the goal

goal-args-below : (problem : Problem) (n variable_count own first : ℕ) → own + variable_count ≤ n → (ts : List Term) → All (IsTermOf problem variable_count) ts
    → first + count_by is_object ts ≤ n → All (IsPlainBelow n) (opened_args first own ts)
goal-args-below problem n variable_count own first enough [] are within = All-nil (IsPlainBelow n)
goal-args-below problem n variable_count own first enough (Obj m ∷ ts) are within =
    let counted = count-object m ts in
    All-cons (IsPlainBelow n) (Var first) _ (omega (arith, within, counted))
    (goal-args-below problem n variable_count own (first + 1) enough ts (All-tail (IsTermOf problem variable_count) (Obj m) ts are)
    (omega (arith, within, counted)))
goal-args-below problem n variable_count own first enough (Var v ∷ ts) are within =
    let below : v < variable_count = All-head (IsTermOf problem variable_count) (Var v) ts are in
    let counted = count-variable v ts in
    All-cons (IsPlainBelow n) (Var (own + v)) _ (omega (arith, enough, below))
    (goal-args-below problem n variable_count own first enough ts (All-tail (IsTermOf problem variable_count) (Var v) ts are)
    (omega (arith, within, counted)))
goal-args-below problem n variable_count own first enough (WildCard ∷ ts) are within = absurd (All-head (IsTermOf problem variable_count) WildCard ts are)

goal-below : (problem : Problem) (n variable_count own first : ℕ) → own + variable_count ≤ n → (goal : List Atom) → All (IsAtomOf problem variable_count) goal
    → first + goal_objects goal ≤ n → ArePlainAtoms n (opened_goal first own goal)
goal-below problem n variable_count own first enough [] are within = All-nil (λ (a : Atom). All (IsPlainBelow n) a.args)
goal-below problem n variable_count own first enough (a ∷ goal) are within =
    let counted = sum_by-cons (λ (atom : Atom). count_by is_object atom.args) a goal in
    All-cons (λ (a : Atom). All (IsPlainBelow n) a.args) _ _
    (goal-args-below problem n variable_count own first enough a.args (All-head (IsAtomOf problem variable_count) a goal are).1
    (omega (arith, within, counted)))
    (goal-below problem n variable_count own (first + count_by is_object a.args) enough goal (All-tail (IsAtomOf problem variable_count) a goal are)
    (omega (arith, within, counted)))

-- ---- the rows

module _ (n : ℕ) (named : ℕ → ℕ → Atom) (named_below : (column index : ℕ) → All (IsPlainBelow n) (named column index).args) where
  mutual
    -- gaps aside, which no table has
    opened-below : (first : ℕ) (axioms : List Clause) (path : List Lit) (lit : Lit) (Is : Term → Type 0) (atoms : List Atom)
        (d : Derivation) → Proves (from_atoms Is atoms) axioms path lit d → first + fresh_in d ≤ n
        → All (IsPlainBelow n) (terms_of (opened named first d))
    opened-below first axioms path lit Is atoms (fact leaf) p within = elim (zero_test leaf.column) [
      | inl z ↦ let inside : first + length leaf.atom.args ≤ n =
          rw z.1 at within in rw z.1 (variables-below n first (length leaf.atom.args) inside)
      | inr z ↦ rw z.1 (named_below leaf.column leaf.index)
    ]
    opened-below first axioms path lit Is atoms (ancestor i) p within = All-nil (IsPlainBelow n)
    opened-below first axioms path lit Is atoms (step number theta place parts) p within =
        All-append (IsPlainBelow n) (variables_from first (length theta)) (all_terms_of (all_opened named (first + length theta) parts))
        (variables-below n first (length theta) (omega (arith, within)))
        (all_opened-below (first + length theta) axioms (lit ∷ path) _ Is atoms parts p.2 (omega (arith, within)))
    opened-below first axioms path lit Is atoms (gap atom) p within = absurd p.1
    opened-below first axioms path lit Is atoms open_place p within = absurd p

    all_opened-below : (first : ℕ) (axioms : List Clause) (path lits : List Lit) (Is : Term → Type 0) (atoms : List Atom) (ds : Derivations)
        → ProvesEach (from_atoms Is atoms) axioms path lits ds → first + all_fresh_in ds ≤ n
        → All (IsPlainBelow n) (all_terms_of (all_opened named first ds))
    all_opened-below first axioms path [] Is atoms none p within = All-nil (IsPlainBelow n)
    all_opened-below first axioms path [] Is atoms (also d ds) p within = absurd p
    all_opened-below first axioms path (lit ∷ lits) Is atoms none p within = absurd p
    all_opened-below first axioms path (lit ∷ lits) Is atoms (also d ds) p within =
        All-append (IsPlainBelow n) (terms_of (opened named first d)) _
        (opened-below first axioms path lit Is atoms d p.0 (omega (arith, within)))
        (all_opened-below (first + fresh_in d) axioms path lits Is atoms ds p.1 (omega (arith, within)))

  module _ (Is : Term → Type 0) (problem : Problem) where
    row-below : (first : ℕ) (atoms : List Atom) (row : List Derivation) → ProvesEachOf Is problem.axioms atoms row
        → first + sum_by fresh_in row ≤ n → All (IsPlainBelow n) (flat_map terms_of (opened_row named first row))
    row-below first [] [] p within = All-nil (IsPlainBelow n)
    row-below first [] (d ∷ row) p within = absurd p
    row-below first (a ∷ atoms) [] p within = absurd p
    row-below first (a ∷ atoms) (d ∷ row) p within =
        let counted = sum_by-cons fresh_in d row in
        All-append (IsPlainBelow n) (terms_of (opened named first d)) _
        (opened-below first problem.axioms [] (positive_of a) Is (leaf_atoms (leaves_of d)) d p.0.proves
        (omega (arith, within, counted))) (row-below (first + fresh_in d) atoms row p.1 (omega (arith, within, counted)))

    row-forms : (first : ℕ) (atoms opens : List Atom) (row : List Derivation) → ProvesEachOf Is problem.axioms atoms row
        → AllZip AreAlike atoms opens → RowForms problem.axioms opens (opened_row named first row)
    row-forms first [] [] [] p alike = tt
    row-forms first [] [] (d ∷ row) p alike = absurd p
    row-forms first [] (b ∷ opens) row p alike = absurd alike
    row-forms first (a ∷ atoms) [] row p alike = absurd alike
    row-forms first (a ∷ atoms) (b ∷ opens) [] p alike = absurd p
    row-forms first (a ∷ atoms) (b ∷ opens) (d ∷ row) p alike = (
      form-opened Is problem.axioms (leaf_atoms (leaves_of d)) named first [] [] (positive_of a) (positive_of b) d tt alike.0 p.0.proves,
      row-forms (first + fresh_in d) atoms opens row p.1 alike.1,
    )

    rows-below : (first : ℕ) (steps : List OpInst) (goal : List Atom) (goal_variable_count : ℕ) (rows : List (List Derivation))
        → RowsProve Is problem 0 steps goal goal_variable_count rows → first + sum_by (sum_by fresh_in) rows ≤ n
        → All (IsPlainBelow n) (flat_map (flat_map terms_of) (opened_rows named first rows))
    rows-below first [] goal goal_variable_count [] p within = absurd p
    rows-below first [] goal goal_variable_count (row ∷ []) p within =
        let counted = sum_by-cons (sum_by fresh_in) row [] in
        All-append (IsPlainBelow n) (flat_map terms_of (opened_row named first row)) []
        (row-below first _ row p.2 (omega (arith, within, counted))) (All-nil (IsPlainBelow n))
    rows-below first [] goal goal_variable_count (row ∷ second ∷ rows) p within = absurd p
    rows-below first (s ∷ steps) goal goal_variable_count [] p within = absurd p
    rows-below first (s ∷ steps) goal goal_variable_count (row ∷ rows) p within =
        let counted = sum_by-cons (sum_by fresh_in) row rows in
        All-append (IsPlainBelow n) (flat_map terms_of (opened_row named first row)) _
        (row-below first _ row p.0 (omega (arith, within, counted)))
        (rows-below (first + sum_by fresh_in row) steps goal goal_variable_count rows p.1 (omega (arith, within, counted)))

    rows-forms : (f first goal_first own : ℕ) (steps : List OpInst) (goal : List Atom) (goal_variable_count : ℕ) (rows : List (List Derivation))
        → RowsProve Is problem 0 steps goal goal_variable_count rows
        → PlanForms problem (opened_steps f steps) (opened_goal goal_first own goal) (opened_rows named first rows)
    rows-forms f first goal_first own [] goal goal_variable_count [] p = absurd p
    rows-forms f first goal_first own [] goal goal_variable_count (row ∷ []) p =
        row-forms first (map (substitute_atom p.0) goal) (opened_goal goal_first own goal) row p.2
        (goal_opened-alike goal_first own p.0 goal)
    rows-forms f first goal_first own [] goal goal_variable_count (row ∷ second ∷ rows) p = absurd p
    rows-forms f first goal_first own (s ∷ steps) goal goal_variable_count [] p = absurd p
    rows-forms f first goal_first own (s ∷ steps) goal goal_variable_count (row ∷ rows) p =
        let opens : OpInst = record { op = s.op; args = variables_from f (length s.args) } in (
          row-forms first (precondition problem s) (precondition problem opens) row p.0 (preconditions-alike problem s opens refl),
          rows-forms (f + length s.args) (first + sum_by fresh_in row) goal_first own steps goal goal_variable_count rows p.1,
        )

-- ---- the whole plan

pub can_replay : (problem : Problem) (plan : Table) (changes : List Change) → IsValid problem → IsTable problem plan → plan.params ≡ 0
    → changes ≡ replicate (fresh_variables plan) Fresh → HasSolutions changes
    → CanReplayRows problem (steps_opened plan) (goal_opened plan) (rows_opened problem plan) changes
    × All (IsPlainBelow (variables_of changes)) (opened_terms problem plan)
can_replay problem plan changes valid is_table no_params changes_are solvable =
    let n : ℕ = variables_of changes in
    let many : n ≡ fresh_variables plan =
    ap variables_of changes_are ∙ variables-fresh [] (fresh_variables plan) ∙ plus_none (fresh_variables plan) in
    let plan_prove =
    subst (λ (k : ℕ). RowsProve (IsObjectOrParameter problem.objects k) problem k plan.steps plan.goal plan.goal_variable_count (rows_of plan.proofs))
    no_params is_table.prove in
    let steps =
    steps-plain problem n 0 plan.steps (subst (λ (k : ℕ). All (IsStepOf problem k) plan.steps) no_params is_table.in_range.steps)
    (omega (arith, many)) in
    let goal_are : All (IsAtomOf problem plan.goal_variable_count) plan.goal =
    subst (λ (k : ℕ). All (IsAtomOf problem k) plan.goal) (omega (arith, no_params)) is_table.in_range.goal in
    let goal =
    goal-below problem n plan.goal_variable_count (first_own plan) (step_variables plan.steps) (omega (arith, many)) plan.goal goal_are
    (omega (arith, many)) in
    let rows =
    rows-below n (add_at problem (steps_opened plan)) (add_at-plain problem valid n (steps_opened plan) steps)
    (IsObjectOrParameter problem.objects 0) problem (first_of_rows plan) plan.steps plan.goal plan.goal_variable_count
    (rows_of plan.proofs) plan_prove
    (omega (arith, many)) in
    let own = plan-own problem plan is_table no_params in
    let fits : Fits own.0 changes = subst (Fits own.0) (sym changes_are) (All-replicate (Meets own.0) (fresh_variables plan) Fresh tt) in (
      record {
        forms =
            rows-forms n (add_at problem (steps_opened plan)) (add_at-plain problem valid n (steps_opened plan) steps)
            (IsObjectOrParameter problem.objects 0) problem 0 (first_of_rows plan) (step_variables plan.steps)
            (first_own plan) plan.steps plan.goal plan.goal_variable_count (rows_of plan.proofs) plan_prove;
        needs_below = needs (steps_opened plan) steps;
        goal_below = goal;
        terms_below = rows;
        solved = (own.0, fits, own.1);
        solvable = solvable;
      },
      All-append (IsPlainBelow n) (flat_map (λ (inst : OpInst). inst.args) (steps_opened plan)) _
          (steps_terms-below problem n (steps_opened plan) steps)
          (All-append (IsPlainBelow n) (variables_from (step_variables plan.steps) (goal_objects plan.goal)) _
          (variables-below n (step_variables plan.steps) (goal_objects plan.goal) (omega (arith, many))) rows),
    )
  where
    plus_none : (k : ℕ) → variables_of [] + k ≡ k
    plus_none k = omega arith

    needs : (steps : List OpInst) → All (IsPlainStep problem (variables_of changes)) steps
        → All (λ inst. ArePlainAtoms (variables_of changes) (precondition problem inst)) steps
    needs steps all k d below = precondition-plain problem valid (variables_of changes) _ (all k d below)
