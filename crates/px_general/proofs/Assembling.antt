-- The whole replay: the terms of any steps, goal and proofs of the plan's shape make all its pairs equal.
use Rattle.std.specs.Prelude.{◌≡◌, ◌+◌, ◌<◌, ℕ, Option, Some, None, List, [], ◌∷◌, ◌++◌, map, length, slice_get, All, Contains}
use Rattle.std.proofs.Common.{zero, suc, refl, sym, ap, ◌∙◌, subst, arith}
use Rattle.std.proofs.lemmas.List.Elements.{All-append, Contains-append_right}
use Rattle.px_base.specs.ListLaws.{All-at, All-each}
use Rattle.px_terms.specs.declared.atom.Atom.{Atom}
use Rattle.px_terms.specs.declared.instance.OpInst.{OpInst}
use Rattle.px_terms.specs.declared.problem.Problem.{Problem}
use Rattle.px_terms.specs.declared.term.Term.{Term}
use Rattle.px_terms.specs.Language.{substitute}
use Rattle.px_terms.specs.Operators.{adds, precondition}
use Rattle.px_terms.specs.Substitution.{substitute_atom, substitute_instance, variables_from}
use Rattle.px_terms.specs.Validity.{IsAtomOf}
use Rattle.px_unify.specs.Changes.{MakesPairEqual, MakesEachEqual}
use Rattle.px_proof.specs.Derivation.{Derivation, skeleton, no_atom}
use Rattle.px_proof.specs.Proves.{IsObjectOrParameter}
use Rattle.px_proof.specs.Substitution.{derivation_under}
use Rattle.px_table.specs.declared.mark.Mark.{Mark}
use Rattle.px_table.specs.declared.table.Table.{Table}
use Rattle.px_table.specs.Marks.{IsNamed, mark_of, marks_from, row_leaves, row_marks, step_at}
use Rattle.px_table.specs.Supports.{RowsProve}
use Rattle.px_table.specs.SupportShapes.{SupportShape, shape_of_support}
use Rattle.px_table.specs.Tables.{IsTable, rows_of}
use Rattle.px_table.specs.UnderLaws.{adds-under, from_map, precondition-under}
use Rattle.px_table.specs.RowLaws.{first_row}
use Rattle.px_general.specs.General.{shape_of_table}
use Rattle.px_replay.specs.Opened.{add_at, atom_in, opened_steps, opened_goal, opened_row, opened_rows, row_pairs, rows_pairs, step_variables, goal_objects, first_own, first_of_rows, steps_opened, rows_opened, replay_pairs}
use Rattle.px_general.proofs.Opening.{HasFrom, HasFrom-prefix, HasFrom-back, IsNamedAdd, variables-are}
use Rattle.px_general.proofs.Solving.{HasItsArguments, atom_without, goal-counted, goal-solved, goal_opened-alike, goal_terms, goals-alike, op_of, own_of, own_of_goal, own_of_row, own_of_rows, own_of_steps, preconditions-alike, row-solved, steps-fresh, steps-solved}
use Rattle.px_general.proofs.Reading.{cons_same}

module _ (One Other : Term → Type 0) (problem : Problem) (named : ℕ → ℕ → Atom) (terms : List Term) (goal others : List Atom)
    (goal_variable_count goal_first own : ℕ)
    (same_goal : map atom_without others ≡ map atom_without goal) (goal_are : All (IsAtomOf problem goal_variable_count) goal)
    (has_goal : HasFrom terms goal_first (own_of_goal others)) where
  -- the mark's atom is the add that it names, under the terms
  abbrev pub NamesAdd : Mark → Type 0
  NamesAdd mark = 0 < mark.column → mark.atom ≡ substitute_atom terms (named mark.column mark.index)

  pub record AreSolved (f first : ℕ) (steps : List OpInst) (rows rows' : List (List Derivation)) : Type 0 where
    pub are : map (map (derivation_under terms)) (opened_rows named first rows) ≡ rows'
    pub equal : MakesEachEqual (rows_pairs problem (opened_steps f steps) (opened_goal goal_first own goal) (opened_rows named first rows))
        terms

  row_named : (r : ℕ) (row : List Derivation) (rows : List (List Derivation))
      → ((mark : Mark) → Contains (marks_from r (row ∷ rows)) mark → NamesAdd mark) → All (IsNamedAdd named terms) (row_leaves row)
  row_named r row rows each =
      All-each (IsNamedAdd named terms) (row_leaves row) (λ leaf has. each (mark_of r leaf) (first_row r row rows leaf has))

  pub rows-solved : (r f first : ℕ) (steps steps' : List OpInst) (rows rows' : List (List Derivation))
      → RowsProve One problem 0 steps goal goal_variable_count rows → (q : RowsProve Other problem 0 steps' others goal_variable_count rows')
      → map op_of steps' ≡ map op_of steps → map (substitute_instance terms) (opened_steps f steps) ≡ steps'
      → map (map skeleton) rows' ≡ map (map skeleton) rows
      → HasFrom terms first (own_of_rows rows') → HasFrom terms own (goal_terms Other problem 0 steps' others goal_variable_count rows' q)
      → ((mark : Mark) → Contains (marks_from r rows') mark → NamesAdd mark)
      → AreSolved f first steps rows rows'
  rows-solved r f first [] [] [] rows' p q ops is same has has_own names = absurd p
  rows-solved r f first [] [] (row ∷ []) [] p q ops is same has has_own names = absurd q
  rows-solved r f first [] [] (row ∷ []) (row' ∷ []) p q ops is same has has_own names =
      let both = cons_same (map skeleton row') (map skeleton row) [] [] same in
      let one =
      row-solved One Other problem named terms first (map (substitute_atom p.0) goal) (opened_goal goal_first own goal)
      (map (substitute_atom q.0) others) row row' p.2 q.2 both.0
      (goals-alike p.0 q.0 goal others same_goal) (goal_opened-alike goal_first own p.0 goal)
      (goal-solved problem goal_variable_count terms own q.0 (omega (arith, q.1)) has_own goal_first goal others same_goal goal_are has_goal)
      (HasFrom-prefix terms first (own_of_row row') [] has) (row_named r row' [] names) in
      record { are = λ i. one.is i ∷ []; equal = one.equal }
  rows-solved r f first [] [] (row ∷ []) (row' ∷ second ∷ rows') p q ops is same has has_own names = absurd q
  rows-solved r f first [] [] (row ∷ second ∷ rows) rows' p q ops is same has has_own names = absurd p
  rows-solved r f first [] (o ∷ steps') rows rows' p q ops is same has has_own names = absurd (cc)
  rows-solved r f first (s ∷ steps) [] rows rows' p q ops is same has has_own names = absurd (cc)
  rows-solved r f first (s ∷ steps) (o ∷ steps') [] rows' p q ops is same has has_own names = absurd p
  rows-solved r f first (s ∷ steps) (o ∷ steps') (row ∷ rows) [] p q ops is same has has_own names = absurd q
  rows-solved r f first (s ∷ steps) (o ∷ steps') (row ∷ rows) (row' ∷ rows') p q ops is same has has_own names =
      let opens : OpInst = record { op = s.op; args = variables_from f (length s.args) } in
      let both = cons_same (map skeleton row') (map skeleton row) (map (map skeleton) rows') (map (map skeleton) rows) same in
      let same_op = cons_same o.op s.op (map op_of steps') (map op_of steps) ops in
      let here =
      cons_same (substitute_instance terms opens) o
      (map (substitute_instance terms) (opened_steps (f + length s.args) steps)) steps' is in
      let needs : map (substitute_atom terms) (precondition problem opens) ≡ precondition problem o =
      sym (precondition-under problem terms opens) ∙ ap (precondition problem) here.0 in
      let one =
      row-solved One Other problem named terms first (precondition problem s) (precondition problem opens)
      (precondition problem o) row row' p.0 q.0 both.0
      (preconditions-alike problem s o (sym same_op.0)) (preconditions-alike problem s opens refl) needs
      (HasFrom-prefix terms first (own_of_row row') (own_of_rows rows') has) (row_named r row' rows' names) in
      let rest = rows-solved (suc r) (f + length s.args) (first + _) steps steps' rows rows' p.1 q.1 same_op.1 here.1 both.1
      (HasFrom-back terms first (first + _) (own_of_row row') (own_of_rows rows') (omega (arith, one.counted)) has) has_own
      (λ mark inside. names mark (Contains-append_right (row_marks r row') (marks_from (suc r) rows') mark inside)) in
      record {
        are = λ i. one.is i ∷ rest.are i;
        equal =
            All-append (MakesPairEqual terms) (row_pairs problem.axioms (precondition problem opens) (opened_row named first row)) _
            one.equal rest.equal;
      }

-- ---- adds

pub add_at-is : (problem : Problem) (steps : List OpInst) (column index : ℕ) (inst : OpInst) (atom : Atom)
    → step_at steps column ≡ Some inst → slice_get (adds problem inst) index ≡ Some atom → add_at problem steps column index ≡ atom
add_at-is problem steps column index inst atom at add =
    ap (λ (o : Option OpInst). elim o [ None ↦ no_atom | Some i ↦ atom_in (adds problem i) index ]) at
    ∙ ap (λ (o : Option Atom). elim o [ None ↦ no_atom | Some a ↦ a ]) add

pub from_step_at : (f : OpInst → OpInst) (steps : List OpInst) (k : ℕ) (inst : OpInst) → step_at (map f steps) k ≡ Some inst
    → (o : OpInst) × (step_at steps k ≡ Some o) × (f o ≡ inst)
from_step_at f steps zero inst at = absurd (cc)
from_step_at f steps (suc k) inst at = from_map f steps k inst at

pub names-add : (problem : Problem) (terms : List Term) (opens steps : List OpInst) → map (substitute_instance terms) opens ≡ steps
    → (mark : Mark) → IsNamed problem steps mark
    → 0 < mark.column → mark.atom ≡ substitute_atom terms (add_at problem opens mark.column mark.index)
names-add problem terms opens steps is mark named later =
    let add = named.added later in
    let open_step =
    from_step_at (substitute_instance terms) opens mark.column add.0 (ap (λ (l : List OpInst). step_at l mark.column) is ∙ add.1) in
    let listed : slice_get (map (substitute_atom terms) (adds problem open_step.0)) mark.index ≡ Some mark.atom =
    ap (λ (l : List Atom). slice_get l mark.index) (sym (adds-under problem terms open_step.0) ∙ ap (adds problem) open_step.2) ∙ add.2 in
    let open_add = from_map (substitute_atom terms) (adds problem open_step.0) mark.index mark.atom listed in
    sym open_add.2 ∙ ap (substitute_atom terms) (sym
    (add_at-is problem opens mark.column mark.index open_step.0 open_add.0 open_step.1 open_add.1))

-- ---- the whole plan

pub goal_terms-length : (Is : Term → Type 0) (problem : Problem) (params : ℕ) (steps : List OpInst) (goal : List Atom) (goal_variable_count : ℕ)
    (rows : List (List Derivation)) (h : RowsProve Is problem params steps goal goal_variable_count rows)
    → length (goal_terms Is problem params steps goal goal_variable_count rows h) ≡ goal_variable_count
goal_terms-length Is problem params [] goal goal_variable_count [] h = absurd h
goal_terms-length Is problem params [] goal goal_variable_count (row ∷ []) h = h.1
goal_terms-length Is problem params [] goal goal_variable_count (row ∷ second ∷ rows) h = absurd h
goal_terms-length Is problem params (inst ∷ steps) goal goal_variable_count [] h = absurd h
goal_terms-length Is problem params (inst ∷ steps) goal goal_variable_count (row ∷ rows) h =
    goal_terms-length Is problem params steps goal goal_variable_count rows h.1

-- the terms make the opened plan these steps, this goal's objects and these proofs, and make the atoms of each pair equal
pub record IsSolution (problem : Problem) (plan : Table) (steps : List OpInst) (goal : List Atom) (rows : List (List Derivation))
    (terms : List Term) : Type 0 where
  pub steps_are : map (substitute_instance terms) (steps_opened plan) ≡ steps
  pub objects : HasFrom terms (step_variables plan.steps) (own_of_goal goal)
  pub objects_are : map (substitute terms) (variables_from (step_variables plan.steps) (goal_objects plan.goal)) ≡ own_of_goal goal
  pub rows_are : map (map (derivation_under terms)) (rows_opened problem plan) ≡ rows
  pub equal : MakesEachEqual (replay_pairs problem plan) terms

module _ (problem : Problem) (plan : Table) (is_table : IsTable problem plan) (no_params : plan.params ≡ 0) (Is : Term → Type 0)
    (steps : List OpInst) (goal : List Atom) (rows : List (List Derivation))
    (prove : RowsProve Is problem 0 steps goal plan.goal_variable_count rows) (arguments : All (HasItsArguments problem) steps)
    (named : All (IsNamed problem steps) (marks_from 1 rows))
    (shape : shape_of_support steps goal rows ≡ shape_of_table plan) where
  abbrev pub solution_terms : List Term
  solution_terms = own_of steps goal (goal_terms Is problem 0 steps goal plan.goal_variable_count rows prove) rows

  pub own_terms-solve : IsSolution problem plan steps goal rows solution_terms
  own_terms-solve =
      let terms : List Term = solution_terms in
      let chosen : List Term = goal_terms Is problem 0 steps goal plan.goal_variable_count rows prove in
      let ops : map op_of steps ≡ map op_of plan.steps = ap (λ (s : SupportShape). s.operators) shape in
      let same_goal : map atom_without goal ≡ map atom_without plan.goal = ap (λ (s : SupportShape). s.goal) shape in
      let same_rows : map (map skeleton) rows ≡ map (map skeleton) (rows_of plan.proofs) = ap (λ (s : SupportShape). s.rows) shape in
      let plan_arguments : All (HasItsArguments problem) plan.steps = λ k d below. (is_table.in_range.steps k d below).count in
      let has : HasFrom terms 0 terms = λ k t at. subst (λ (n : ℕ). slice_get terms n ≡ Some t) (omega arith) at in
      let s_count : step_variables plan.steps ≡ length (own_of_steps steps) =
      steps-fresh problem plan.steps steps ops plan_arguments arguments in
      let g_count : goal_objects plan.goal ≡ length (own_of_goal goal) = goal-counted plan.goal goal same_goal in
      let c_count : length chosen ≡ plan.goal_variable_count = goal_terms-length Is problem 0 steps goal plan.goal_variable_count rows prove in
      let has_goal_on =
      HasFrom-back terms 0 (step_variables plan.steps) (own_of_steps steps) (own_of_goal goal ++ (chosen ++ own_of_rows rows))
      (omega (arith, s_count)) has in
      let has_chosen_on =
      HasFrom-back terms (step_variables plan.steps) (first_own plan) (own_of_goal goal) (chosen ++ own_of_rows rows)
      (omega (arith, g_count)) has_goal_on in
      let has_rows =
      HasFrom-back terms (first_own plan) (first_of_rows plan) chosen (own_of_rows rows) (omega (arith, c_count)) has_chosen_on in
      let has_goal = HasFrom-prefix terms (step_variables plan.steps) (own_of_goal goal) (chosen ++ own_of_rows rows) has_goal_on in
      let has_chosen = HasFrom-prefix terms (first_own plan) chosen (own_of_rows rows) has_chosen_on in
      let steps_are =
      steps-solved problem terms 0 plan.steps steps ops plan_arguments arguments
      (HasFrom-prefix terms 0 (own_of_steps steps) (own_of_goal goal ++ (chosen ++ own_of_rows rows)) has) in
      let goal_are : All (IsAtomOf problem plan.goal_variable_count) plan.goal =
      subst (λ (n : ℕ). All (IsAtomOf problem n) plan.goal) (omega (arith, no_params)) is_table.in_range.goal in
      let plan_prove =
      subst (λ (n : ℕ). RowsProve (IsObjectOrParameter problem.objects n) problem n plan.steps plan.goal plan.goal_variable_count
      (rows_of plan.proofs))
      no_params is_table.prove in
      let all =
      rows-solved (IsObjectOrParameter problem.objects 0) Is problem
      (add_at problem (steps_opened plan)) terms plan.goal goal plan.goal_variable_count
      (step_variables plan.steps) (first_own plan) same_goal goal_are has_goal
      1 0 (first_of_rows plan) plan.steps steps (rows_of plan.proofs) rows plan_prove prove ops steps_are same_rows has_rows has_chosen
      (λ mark inside. names-add problem terms (steps_opened plan) steps steps_are mark
      (All-at (IsNamed problem steps) (marks_from 1 rows) mark named inside)) in
      record {
        steps_are = steps_are;
        objects = has_goal;
        objects_are =
            ap (λ (k : ℕ). map (substitute terms) (variables_from (step_variables plan.steps) k)) g_count
            ∙ variables-are terms (step_variables plan.steps) (own_of_goal goal) has_goal;
        rows_are = all.are;
        equal = all.equal;
      }
