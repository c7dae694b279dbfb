-- The rows of moves are a support of the steps that the moves take.
use Rattle.std.specs.Prelude.{◌≡◌, ◌≤◌, ◌+◌, ℕ, Bool, true, false, not, List, [], ◌∷◌, ◌++◌, length, map, filter, take, All, Contains}
use Rattle.std.proofs.Common.{zero, suc, refl, sym, ap, ◌∙◌, subst, inl, arith, append_assoc, length-append}
use Rattle.std.proofs.lemmas.List.{append-nil}
use Rattle.std.proofs.lemmas.List.Elements.{All-append, All-cons, All-head, All-nil, All-tail, Contains-append_right}
use Rattle.px_base.specs.ListLaws.{Contains-filter}
use Rattle.px_terms.specs.declared.atom.Atom.{Atom}
use Rattle.px_terms.specs.declared.instance.OpInst.{OpInst}
use Rattle.px_terms.specs.declared.problem.Problem.{Problem}
use Rattle.px_terms.specs.declared.term.Term.TheVariants.{Obj}
use Rattle.px_terms.specs.Instances.{IsGround}
use Rattle.px_terms.specs.Language.{IsObject}
use Rattle.px_terms.specs.Operators.{deletes, precondition, result_of, results_of}
use Rattle.px_terms.specs.Substitution.{substitute_atom}
use Rattle.px_terms.specs.Validity.{IsAtomOf, IsGroundInstanceOf, IsInstanceOf, IsValid}
use Rattle.px_terms.specs.ValidityLaws.{deletes-false, instance-is_ground, precondition-is_of, result_of-is_result}
use Rattle.px_proof.specs.Derivation.{Derivation}
use Rattle.px_proof.specs.Proves.{IsObjectOrParameter}
use Rattle.px_table.specs.declared.entry.Entry.{Entry}
use Rattle.px_table.specs.declared.entry.Entry.TheVariants.{Op, Macro}
use Rattle.px_table.specs.declared.entry.Move.{Move}
use Rattle.px_table.specs.declared.entry.Move.TheVariants.{Apply, Push}
use Rattle.px_table.specs.declared.mark.Mark.{Mark}
use Rattle.px_table.specs.declared.table.Table.{Table}
use Rattle.px_table.specs.Kernels.{instance_under}
use Rattle.px_table.specs.Marks.{mark_of, marks_from, row_marks}
use Rattle.px_table.specs.Prefixes.{IsMacro}
use Rattle.px_table.specs.RowLaws.{leaf_marked}
use Rattle.px_table.specs.SupportLaws.{support_carries}
use Rattle.px_table.specs.Supports.{ProvesEachOf, ProvesGoal, RowsProve, Supports}
use Rattle.px_table.specs.Tables.{AreOfProblem, IsTable, rows_of}
use Rattle.px_table.specs.UnderLaws.{precondition-under}
use Rattle.px_entries.specs.AnswerRows.{AnswersSupport}
use Rattle.px_entries.specs.Entries.{IsEntry, effect_of, table_at}
use Rattle.px_entries.specs.Learned.{AreLearned}
use Rattle.px_ends.specs.Made.{IsFirstRow, MacroRows, MovesRows}
use Rattle.px_ends.specs.Moves.{CanMake}
use Rattle.px_ends.specs.Tasks.{Task, after, IsAllowed, steps_of}
use Rattle.px_support.proofs.GraftedRows.{IsOfProblem, good-row}
use Rattle.px_support.proofs.MacroTables.{macro-instances, macro-table}
use Rattle.px_support.proofs.Marking.{AreSupportedRows, rows-marked}
use Rattle.px_support.proofs.RowLeaves.{first_row-supported, others-in}
use Rattle.px_support.proofs.Staying.{results-more}
use Rattle.px_support.specs.MadeSupports.{MovesSupport}
use Rattle.px_support.proofs.FittingSteps.{steps-fit}

-- only what belongs to the problem stands in the row
abbrev pub IsRowOfProblem : Problem → List Derivation → Type 0
IsRowOfProblem problem row = All (IsOfProblem problem) row

module _ (answers-support : AnswersSupport) (task : Task) (valid : IsValid task.problem)
    (goal_of : All (IsAtomOf task.problem task.variable_count) task.goal) (learned : AreLearned task.problem task.tables) where
  abbrev problem : Problem
  problem = task.problem

  -- what is said of the steps that are left and their rows
  pub record Supported (made steps : List OpInst) (rows : List (List Derivation)) : Type 0 where
    pub prove : RowsProve IsObject task.problem 0 steps task.goal task.variable_count rows
    pub rows_are : AreSupportedRows task.problem task.initial made steps rows
    pub of_problem : AreOfProblem task.problem rows
    pub instances : All (IsInstanceOf task.problem) steps

  -- a step's row: its precondition's first proofs in the model
  step-row : (model : List Atom) (made : List OpInst) (inst : OpInst) (row : List Derivation) → IsInstanceOf task.problem inst
      → IsFirstRow task.problem made model (precondition task.problem inst) 0 row
      → ProvesEachOf IsObject task.problem.axioms (precondition task.problem inst) row × AreOfProblem task.problem (row ∷ [])
  step-row model made inst row is first =
      answers-support.step task.problem model (precondition task.problem inst) first.0 first.1 row valid
      (precondition-is_of task.problem inst valid is) first.2.finished (others-in task.problem made first.1 row first.3)

  goal-row : (model : List Atom) (made : List OpInst) (row : List Derivation) → IsFirstRow task.problem made model task.goal task.variable_count row
      → ProvesGoal IsObject task.problem.axioms 0 task.goal task.variable_count row × AreOfProblem task.problem (row ∷ [])
  goal-row model made row first =
      answers-support.goal task.problem model task.goal task.variable_count first.0 first.1 row valid goal_of first.2.finished
      (others-in task.problem made first.1 row first.3)

  at-goal : (model : List Atom) (made : List OpInst) (row : List Derivation) → model ≡ results_of task.problem task.initial made
      → All (IsGroundInstanceOf task.problem) made
      → IsFirstRow task.problem made model task.goal task.variable_count row → Supported made [] (row ∷ [])
  at-goal model made row is ground_steps first =
      let g = goal-row model made row first in
      record {
        prove = g.0;
        rows_are =
            (first_row-supported task.problem valid task.initial made ground_steps model task.goal task.variable_count row is goal_of first, refl);
        of_problem = g.1;
        instances = All-nil (IsInstanceOf task.problem);
      }

  at-step : (model : List Atom) (made : List OpInst) (inst : OpInst) (row : List Derivation) (steps : List OpInst)
      (rows : List (List Derivation)) → model ≡ results_of task.problem task.initial made → All (IsGroundInstanceOf task.problem) made
      → IsInstanceOf task.problem inst → IsFirstRow task.problem made model (precondition task.problem inst) 0 row
      → Supported (made ++ inst ∷ []) steps rows → Supported made (inst ∷ steps) (row ∷ rows)
  at-step model made inst row steps rows is ground_steps instance first rest =
      let s = step-row model made inst row instance first in
      record {
        prove = (s.0, rest.prove);
        rows_are = (
          first_row-supported task.problem valid task.initial made ground_steps model (precondition task.problem inst) 0 row is
              (precondition-is_of task.problem inst valid instance) first,
          rest.rows_are,
        );
        of_problem = All-cons (IsRowOfProblem task.problem) row rows (s.1 0 row (omega arith)) rest.of_problem;
        instances = All-cons (IsInstanceOf task.problem) inst steps instance rest.instances;
      }

  -- the model after one step more
  after-step : (model : List Atom) (made : List OpInst) (inst : OpInst) → model ≡ results_of task.problem task.initial made
      → result_of task.problem model inst ≡ results_of task.problem task.initial (made ++ inst ∷ [])
  after-step model made inst is =
      ap (λ (m : List Atom). result_of task.problem m inst) is ∙ sym (results-more task.problem task.initial made (inst ∷ []))

  -- ---- the rows of a MACROP

  -- the facts that a step leaves hold after it
  held-after : (made : List OpInst) (inst : OpInst) (facts : List Atom) → IsGroundInstanceOf task.problem inst
      → ((a : Atom) → IsGround a → Contains facts a → Contains (results_of task.problem task.initial made) a)
      → (a : Atom) → IsGround a → Contains (filter (λ atom. not (deletes task.problem inst atom)) facts) a
      → Contains (results_of task.problem task.initial (made ++ inst ∷ [])) a
  held-after made inst facts of hold a is_ground has =
      let both = (Contains-filter (λ atom. not (deletes task.problem inst atom)) facts a).0 has in
      let stays = deletes-false task.problem inst a valid of is_ground (not-true (deletes task.problem inst a) both.1) in
      subst (λ (atoms : List Atom). Contains atoms a) (sym (results-more task.problem task.initial made (inst ∷ [])))
      ((result_of-is_result task.problem inst (results_of task.problem task.initial made) valid of a is_ground).1
      (inl (hold a is_ground both.0, stays)))
    where
      not-true : (b : Bool) → not b ≡ true → b ≡ false
      not-true true e = absurd (cc)
      not-true false e = refl

  module _ (table : Table) (is : IsTable task.problem table) (prefix : ℕ) (sigma : List ℕ) (m : IsMacro task.problem table prefix sigma)
      (before : List OpInst) where
    abbrev under : List OpInst → List OpInst
    under = map (instance_under sigma)

    -- a row of the table for each of the steps that are left, put onto the facts that are left
    pub macro-supported : (front made : List OpInst) (steps : List OpInst) (rows : List (List Derivation)) (count : ℕ) (facts : List Atom)
        (new : List (List Derivation)) (more : List OpInst) (others : List (List Derivation))
        → made ≡ before ++ front → map (instance_under sigma) table.steps ≡ front ++ map (instance_under sigma) steps
        → length front + count ≤ prefix → All (IsGroundInstanceOf task.problem) made
        → All (IsInstanceOf task.problem) (take count (map (instance_under sigma) steps))
        → ((mark : Mark) → Contains (marks_from (suc (length front)) rows) mark → Contains table.marks mark)
        → RowsProve (IsObjectOrParameter task.problem.objects table.params) task.problem table.params steps table.goal table.goal_variable_count rows
        → ((a : Atom) → IsGround a → Contains facts a → Contains (results_of task.problem task.initial made) a)
        → MacroRows task.problem sigma (length before) made facts rows (take count (map (instance_under sigma) steps)) new
        → Supported (made ++ take count (map (instance_under sigma) steps)) more others
        → Supported made (take count (map (instance_under sigma) steps) ++ more) (new ++ others)
    macro-supported front made steps rows zero facts new more others made_is whole early all_ground instances marked proves hold made_rows
        rest =
        subst (λ (n : List (List Derivation)). Supported made more (n ++ others)) (sym made_rows)
        (subst (λ (s : List OpInst). Supported s more others) (append-nil made) rest)
    macro-supported front made [] rows (suc count) facts new more others made_is whole early all_ground instances marked proves hold
        made_rows rest =
        subst (λ (n : List (List Derivation)). Supported made more (n ++ others)) (sym made_rows)
        (subst (λ (s : List OpInst). Supported s more others) (append-nil made) rest)
    macro-supported front made (step ∷ steps) [] (suc count) facts new more others made_is whole early all_ground instances marked proves
        hold made_rows rest = absurd proves
    macro-supported front made (step ∷ steps) (row ∷ rows)
        (suc count) facts [] more others made_is whole early all_ground instances marked proves hold made_rows rest = absurd made_rows
    macro-supported front made (step ∷ steps) (row ∷ rows) (suc count) facts
        (first ∷ new) more others made_is whole early all_ground instances marked proves hold made_rows rest =
        let inst = instance_under sigma step in
        let left = take count (map (instance_under sigma) steps) in
        let instance : IsInstanceOf task.problem inst = All-head (IsInstanceOf task.problem) inst left instances in
        let grounded : IsGroundInstanceOf task.problem inst = instance-is_ground task.problem inst instance in
        let needs : precondition task.problem inst ≡ map (substitute_atom (map Obj sigma)) (precondition task.problem step) =
        precondition-under task.problem (map Obj sigma) step in
        let good =
        good-row task.problem valid task.initial table is prefix sigma m before front made
        (inst ∷ map (instance_under sigma) steps) all_ground made_is whole (omega (arith, early)) facts hold
        (precondition task.problem step) row first (subst (All (IsAtomOf task.problem 0)) needs
        (precondition-is_of task.problem inst valid instance))
        (λ leaf has. marked (mark_of (suc (length front)) leaf)
        (leaf_marked (suc (length front)) 0 (suc (length front)) (row ∷ rows) row leaf (omega arith) refl has)) proves.0 made_rows.0 in
        let onward =
        macro-supported (front ++ inst ∷ []) (made ++ inst ∷ []) steps rows count
        (filter (λ atom. not (deletes task.problem inst atom)) facts) new more others
        (ap (λ (s : List OpInst). s ++ inst ∷ []) made_is ∙ append_assoc before front (inst ∷ []))
        (whole ∙ sym (append_assoc front (inst ∷ []) (map (instance_under sigma) steps)))
        (omega (arith, early, length-append front (inst ∷ [])))
        (All-append (IsGroundInstanceOf task.problem) made (inst ∷ []) all_ground
        (All-cons (IsGroundInstanceOf task.problem) inst [] grounded (All-nil (IsGroundInstanceOf task.problem))))
        (All-tail (IsInstanceOf task.problem) inst left instances)
        (λ mark has. marked mark (later-row front inst row rows mark has)) proves.1
        (held-after made inst facts grounded hold) made_rows.1
        (subst (λ (s : List OpInst). Supported s more others) (sym (append_assoc made (inst ∷ []) left)) rest) in
        record {
          prove =
              (subst (λ (atoms : List Atom). ProvesEachOf IsObject task.problem.axioms atoms first) (sym needs) good.proves, onward.prove);
          rows_are = (good.supported, onward.rows_are);
          of_problem = All-cons (IsRowOfProblem task.problem) first (new ++ others) good.of_problem onward.of_problem;
          instances = All-cons (IsInstanceOf task.problem) inst (left ++ more) instance onward.instances;
        }
      where
        later-row : (front : List OpInst) (inst : OpInst) (row : List Derivation) (rows : List (List Derivation)) (mark : Mark)
            → Contains (marks_from (suc (length (front ++ inst ∷ []))) rows) mark
            → Contains (marks_from (suc (length front)) (row ∷ rows)) mark
        later-row front inst row rows mark has =
            let number : length (front ++ inst ∷ []) ≡ suc (length front) = length-append front (inst ∷ []) ∙ omega arith in
            Contains-append_right (row_marks (suc (length front)) row) (marks_from (suc (suc (length front))) rows) mark
            (subst (λ (n : ℕ). Contains (marks_from (suc n) rows) mark) number has)

  -- ---- move by move

  pub moves-supported : (model : List Atom) (stack : List Entry) (made : List OpInst) (moves : List Move) (rows : List (List Derivation))
      → All (IsEntry task.problem task.tables) stack → model ≡ results_of task.problem task.initial made
      → All (IsGroundInstanceOf task.problem) made
      → CanMake (IsAllowed task) (after task) (record { model = model; stack = stack }) moves
      → MovesRows task (record { model = model; stack = stack }) made moves rows
      → Supported made (steps_of task.tables stack moves) rows
  moves-supported model stack made [] rows entries is ground_steps can made_rows =
      subst (λ (rs : List (List Derivation)). Supported made [] rs) (sym made_rows.2)
      (at-goal model made made_rows.0 is ground_steps made_rows.1)
  moves-supported model stack made (Push entry ∷ moves) rows entries is ground_steps can made_rows =
      moves-supported model (entry ∷ stack) made moves rows
      (All-cons (IsEntry task.problem task.tables) entry stack can.0.0.is_entry entries) is ground_steps can.1 made_rows
  moves-supported model [] made (Apply ∷ moves) rows entries is ground_steps can made_rows = absurd (can.0.0 refl)
  moves-supported model (Macro number prefix sigma ∷ below) made (Apply ∷ moves) rows entries is ground_steps can made_rows =
      let entry : IsEntry task.problem task.tables (Macro number prefix sigma) =
      All-head (IsEntry task.problem task.tables) (Macro number prefix sigma) below entries in
      let table = table_at task.tables number in
      let found = macro-table task.problem task.tables learned number prefix sigma entry in
      let effect = effect_of task.tables (Macro number prefix sigma) in
      let instances = macro-instances task.problem table prefix sigma found.0 found.1 in
      let grounded : All (IsGroundInstanceOf task.problem) effect = λ k d below. instance-is_ground task.problem _ (instances k d below) in
      let rest =
      moves-supported (results_of task.problem model effect) below (made ++ effect) moves made_rows.1
      (All-tail (IsEntry task.problem task.tables) (Macro number prefix sigma) below entries)
      (ap (λ (a : List Atom). results_of task.problem a effect) is ∙ sym (results-more task.problem task.initial made effect))
      (All-append (IsGroundInstanceOf task.problem) made effect ground_steps grounded) can.1 made_rows.3 in
      subst (λ (rs : List (List Derivation)). Supported made (effect ++ steps_of task.tables below moves) rs) (sym made_rows.4)
      (macro-supported table found.0 prefix sigma found.1 made [] made table.steps (rows_of table.proofs) prefix model made_rows.0
      (steps_of task.tables below moves) made_rows.1
      (sym (append-nil made)) refl (omega arith) ground_steps instances
      (λ mark has. subst (λ (marks : List Mark). Contains marks mark) (sym found.0.marks) has) found.0.prove
      (λ a g has. subst (λ (atoms : List Atom). Contains atoms a) is has) made_rows.2 rest)
  moves-supported model (Op inst ∷ below) made (Apply ∷ moves) rows entries is ground_steps can made_rows =
      let instance : IsInstanceOf task.problem inst = (All-head (IsEntry task.problem task.tables) (Op inst) below entries).of in
      let row = made_rows.2 in
      let grown =
      All-append (IsGroundInstanceOf task.problem) made (inst ∷ []) ground_steps
      (All-cons (IsGroundInstanceOf task.problem) inst [] (instance-is_ground task.problem inst instance)
      (All-nil (IsGroundInstanceOf task.problem))) in
      let rest =
      moves-supported (result_of task.problem model inst) below (made ++ inst ∷ []) moves made_rows.1
      (All-tail (IsEntry task.problem task.tables) (Op inst) below entries) (after-step model made inst is) grown can.1 made_rows.3 in
      let rows_are : rows ≡ row.0 ∷ made_rows.1 = made_rows.4 ∙ ap (λ (rs : List (List Derivation)). rs ++ made_rows.1) row.2 in
      subst (λ (rs : List (List Derivation)). Supported made (inst ∷ steps_of task.tables below moves) rs) (sym rows_are)
      (at-step model made inst row.0 (steps_of task.tables below moves) made_rows.1 is ground_steps instance row.1 rest)

-- what is said of marks and rows is what a support is
supports-all : (task : Task) (steps : List OpInst) (rows : List (List Derivation))
    → RowsProve IsObject task.problem 0 steps task.goal task.variable_count rows → AreSupportedRows task.problem task.initial [] steps rows
    → All (IsInstanceOf task.problem) steps → Supports task.problem task.initial steps task.goal task.variable_count rows
supports-all task steps rows prove rows_are instances =
    let marks = rows-marked task.problem task.initial [] steps rows rows_are in
    record {
      instances = λ k d below. instance-is_ground task.problem _ (instances k d below);
      prove = prove;
      named = λ k d below. (marks k d below).named;
      given = λ k d below. (marks k d below).given;
      kept = λ k d below. (marks k d below).kept;
    }

pub moves_support : AnswersSupport → MovesSupport
moves_support answers-support task moves rows valid goal_of learned can made_rows =
    let s =
    moves-supported answers-support task valid goal_of learned task.initial [] [] moves rows
    (All-nil (IsEntry task.problem task.tables)) refl (All-nil (IsGroundInstanceOf task.problem)) can made_rows in
    let supports = supports-all task (steps_of task.tables [] moves) rows s.prove s.rows_are s.instances in
    record {
      supports = supports;
      of_problem = s.of_problem;
      carries = support_carries task.problem task.initial (steps_of task.tables [] moves) task.goal task.variable_count rows s.of_problem supports;
      instances = s.instances;
      fitting =
          steps-fit task task.initial [] moves (All-nil (IsEntry task.problem task.tables)) can;
    }
