-- The table of a plan that is found is like each plan's, and its steps carry.
use Rattle.std.specs.Prelude.{◌≡◌, ◌≤◌, ◌<◌, ◌*◌, ℕ, List, [], ◌∷◌, length, All}
use Rattle.std.proofs.Common.{refl, sym, subst, arith, length-append}
use Rattle.std.proofs.lemmas.List.Elements.{All-cons, All-head, All-nil, All-tail}
use Rattle.px_base.specs.Bounds.{u32_max}
use Rattle.px_terms.specs.Limits.{most_nodes}
use Rattle.px_terms.specs.declared.atom.Atom.{Atom}
use Rattle.px_terms.specs.declared.instance.OpInst.{OpInst}
use Rattle.px_terms.specs.Operators.{results_of}
use Rattle.px_terms.specs.Plans.{Carries}
use Rattle.px_terms.specs.Validity.{IsAtomOf, IsValid}
use Rattle.px_table.specs.declared.entry.Entry.{Entry}
use Rattle.px_table.specs.declared.entry.Entry.TheVariants.{Op, Macro}
use Rattle.px_table.specs.declared.entry.Move.{Move}
use Rattle.px_table.specs.declared.entry.Move.TheVariants.{Apply, Push}
use Rattle.px_table.specs.Limits.{most_steps}
use Rattle.px_table.specs.SupportLaws.{support_table}
use Rattle.px_table.specs.Tables.{IsTable, rows_of}
use Rattle.px_totality.proofs.AnswerRows.{answers-support}
use Rattle.px_entries.proofs.RowSteps.{steps-count}
use Rattle.px_entries.specs.Entries.{IsEntry, effect_of, table_at}
use Rattle.px_entries.specs.Learned.{AreLearned}
use Rattle.px_ends.specs.Ends.{AreMoves}
use Rattle.px_ends.specs.Moves.{CanMake}
use Rattle.px_ends.specs.Tasks.{IsAllowed, Task, after, steps_of}
use Rattle.px_support.proofs.FoundByValue.{found_with_weight}
use Rattle.px_support.proofs.MacroTables.{macro-table}
use Rattle.px_support.proofs.Supporting.{moves_support}
use Rattle.px_support.specs.MadeSupports.{AreSupport}
use Rattle.px_session.specs.Lawful.{FindsPlan}
use Rattle.px_session.specs.Sessions.{IsPlanTable, SessionState}
use Rattle.px_session.proofs.FoundPlans.{built, built-plan}

module _ (task : Task) (valid : IsValid task.problem) (goal_of : All (IsAtomOf task.problem task.variable_count) task.goal)
    (learned : AreLearned task.problem task.tables) (room : task.nodes ≤ most_nodes) where
  -- ---- how many steps moves take

  effect-short : (entry : Entry) → IsEntry task.problem task.tables entry → length (effect_of task.tables entry) ≤ most_steps
  effect-short (Op inst) is = omega arith
  effect-short (Macro number prefix sigma) is =
      let m = macro-table task.problem task.tables learned number prefix sigma is in
      omega (arith, m.2, m.1.within, steps-count (table_at task.tables number) sigma prefix m.1.within)

  steps-short : (model : List Atom) (stack : List Entry) (moves : List Move) → All (IsEntry task.problem task.tables) stack
      → CanMake (IsAllowed task) (after task) (record { model = model; stack = stack }) moves
      → length (steps_of task.tables stack moves) ≤ most_steps * length moves
  steps-short model stack [] entries can = omega arith
  steps-short model stack (Push entry ∷ moves) entries can =
      let rest = steps-short model (entry ∷ stack) moves
      (All-cons (IsEntry task.problem task.tables) entry stack can.0.0.is_entry entries) can.1 in
      omega (arith, rest)
  steps-short model [] (Apply ∷ moves) entries can = absurd (can.0.0 refl)
  steps-short model (entry ∷ below) (Apply ∷ moves) entries can =
      let here = effect-short entry (All-head (IsEntry task.problem task.tables) entry below entries) in
      let rest = steps-short (results_of task.problem model (effect_of task.tables entry)) below moves
      (All-tail (IsEntry task.problem task.tables) entry below entries) can.1 in
      omega (arith, here, rest, length-append (effect_of task.tables entry) (steps_of task.tables below moves))

  -- ---- the table of the moves

  module _ (name count : ℕ) (old new : SessionState) (steps : List OpInst) (is : FindsPlan task name old count steps new) where
    abbrev taken : List OpInst
    taken = steps_of task.tables [] is.moves

    moves-are : AreMoves task is.moves
    moves-are = (found_with_weight task task.problem.weight is.moves is.found).can

    support : AreSupport task is.moves (rows_of is.made.proofs)
    support = moves_support answers-support task is.moves (rows_of is.made.proofs) valid goal_of learned moves-are is.table.rows

    pub found-carries : Carries task.problem task.initial steps task.variable_count task.goal
    found-carries =
        subst (λ (s : List OpInst). Carries task.problem task.initial s task.variable_count task.goal) (sym is.taken) support.carries

    short : length taken < u32_max
    short =
        let few = (found_with_weight task task.problem.weight is.moves is.found).few in
        let all = steps-short task.initial [] is.moves (All-nil (IsEntry task.problem task.tables)) moves-are in
        omega (arith, few, all, room)

    made-is : is.made ≡ built taken task.goal task.variable_count is.made.proofs
    made-is = λ i. record {
      params = is.table.params i;
      steps = is.table.steps i;
      goal = is.table.goal i;
      goal_variable_count = is.table.goal_variable_count i;
      marks = is.table.marks i;
      proofs = is.made.proofs;
      param_sorts = is.table.param_sorts i;
    }

    of-support : IsTable task.problem (built taken task.goal task.variable_count is.made.proofs)
    of-support =
        support_table task.problem valid task.initial taken task.goal task.variable_count is.made.proofs support.supports support.instances goal_of
        support.of_problem short support.fitting

    pub found-table : IsPlanTable task.problem is.made
    found-table = subst (IsPlanTable task.problem) (sym made-is)
        (built-plan task.problem task.initial taken task.goal task.variable_count is.made.proofs support.instances support.supports support.of_problem
        of-support)
