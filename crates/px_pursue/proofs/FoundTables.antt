-- The table of moves that were found: it is a table, and it rests on the atoms from which they were found.
use Rattle.std.specs.Prelude.{◌≡◌, ◌≤◌, ◌<◌, ◌*◌, ℕ, List, [], ◌∷◌, length, All}
use Rattle.std.proofs.Common.{refl, sym, subst, arith, length-append}
use Rattle.std.proofs.lemmas.List.Elements.{All-cons, All-head, All-nil, All-tail}
use Rattle.px_base.specs.Bounds.{u32_max}
use Rattle.px_terms.specs.declared.atom.Atom.{Atom}
use Rattle.px_terms.specs.declared.instance.OpInst.{OpInst}
use Rattle.px_terms.specs.declared.problem.Problem.{Problem}
use Rattle.px_terms.specs.Operators.{results_of}
use Rattle.px_table.specs.declared.entry.Entry.{Entry}
use Rattle.px_table.specs.declared.entry.Entry.TheVariants.{Op, Macro}
use Rattle.px_table.specs.declared.entry.Move.{Move}
use Rattle.px_table.specs.declared.entry.Move.TheVariants.{Apply, Push}
use Rattle.px_table.specs.declared.table.Table.{Table}
use Rattle.px_table.specs.Limits.{most_steps}
use Rattle.px_table.specs.SupportLaws.{support_table}
use Rattle.px_table.specs.Supports.{Supports}
use Rattle.px_table.specs.Tables.{IsTable, rows_of, table_of_rows}
use Rattle.px_totality.proofs.AnswerRows.{answers-support}
use Rattle.px_entries.proofs.RowSteps.{steps-count}
use Rattle.px_entries.specs.Entries.{IsEntry, effect_of, table_at}
use Rattle.px_ends.specs.Ends.{AreMoves}
use Rattle.px_ends.specs.Made.{IsTableOfMoves}
use Rattle.px_ends.specs.Moves.{CanMake}
use Rattle.px_ends.specs.Tasks.{IsAllowed, Task, after, steps_of, task_of}
use Rattle.px_support.proofs.FoundByValue.{found_with_weight}
use Rattle.px_support.proofs.MacroTables.{macro-table}
use Rattle.px_support.proofs.Supporting.{moves_support}
use Rattle.px_support.specs.MadeSupports.{AreSupport}
use Rattle.px_pursue.specs.Searches.{FindsMoves, IsSearchable}

module _ (task : Task) (searchable : IsSearchable task) where
  -- ---- how many steps moves take

  effect-short : (entry : Entry) → IsEntry task.problem task.tables entry → length (effect_of task.tables entry) ≤ most_steps
  effect-short (Op inst) is = omega arith
  effect-short (Macro number prefix sigma) is =
      let m = macro-table task.problem task.tables searchable.learned number prefix sigma is in
      omega (arith, m.2, m.1.within, steps-count (table_at task.tables number) sigma prefix m.1.within)

  steps-short : (model : List Atom) (stack : List Entry) (moves : List Move) → All (IsEntry task.problem task.tables) stack
      → CanMake (IsAllowed task) (after task) (record { model = model; stack = stack }) moves
      → length (steps_of task.tables stack moves) ≤ most_steps * length moves
  steps-short model stack [] entries can = omega arith
  steps-short model stack (Push entry ∷ moves) entries can =
      let rest = steps-short model (entry ∷ stack) moves
      (All-cons (IsEntry task.problem task.tables) entry stack can.0.0.is_entry entries) can.1 in
      omega (arith, rest)
  steps-short model [] (Apply ∷ moves) entries can = absurd (can.0.0 refl)
  steps-short model (entry ∷ below) (Apply ∷ moves) entries can =
      let here = effect-short entry (All-head (IsEntry task.problem task.tables) entry below entries) in
      let rest = steps-short (results_of task.problem model (effect_of task.tables entry)) below moves
      (All-tail (IsEntry task.problem task.tables) entry below entries) can.1 in
      omega (arith, here, rest, length-append (effect_of task.tables entry) (steps_of task.tables below moves))

  -- ---- the table of the moves

  module _ (moves : List Move) (plan : Table) (found : FindsMoves task moves) (made : IsTableOfMoves task moves plan) where
    abbrev taken : List OpInst
    taken = steps_of task.tables [] moves

    moves-are : AreMoves task moves
    moves-are = (found_with_weight task task.problem.weight moves found).can

    support : AreSupport task moves (rows_of plan.proofs)
    support = moves_support answers-support task moves (rows_of plan.proofs) searchable.valid searchable.goal searchable.learned moves-are
        made.rows

    short : length taken < u32_max
    short =
        let few = (found_with_weight task task.problem.weight moves found).few in
        let all = steps-short task.initial [] moves (All-nil (IsEntry task.problem task.tables)) moves-are in
        omega (arith, few, all, searchable.nodes)

    plan-is : plan ≡ table_of_rows 0 [] taken task.goal task.variable_count plan.proofs
    plan-is = λ i. record {
      params = made.params i;
      steps = made.steps i;
      goal = made.goal i;
      goal_variable_count = made.goal_variable_count i;
      marks = made.marks i;
      proofs = plan.proofs;
      param_sorts = made.param_sorts i;
    }

    pub found-table : IsTable task.problem plan
    found-table = subst (IsTable task.problem) (sym plan-is)
        (support_table task.problem searchable.valid task.initial taken task.goal task.variable_count plan.proofs support.supports support.instances
        searchable.goal support.of_problem short support.fitting)

    pub found-supports : Supports task.problem task.initial plan.steps plan.goal plan.goal_variable_count (rows_of plan.proofs)
    found-supports =
        subst (λ (t : Table). Supports task.problem task.initial t.steps t.goal t.goal_variable_count (rows_of plan.proofs)) (sym plan-is)
        support.supports

-- what may be searched for from some atoms may be from any
pub searchable-from : (problem : Problem) (tables : List Table) (goal : List Atom) (variable_count : ℕ) (atoms others : List Atom)
    → IsSearchable (task_of problem tables atoms goal variable_count) → IsSearchable (task_of problem tables others goal variable_count)
searchable-from problem tables goal variable_count atoms others is =
    record { valid = is.valid; nodes = is.nodes; goal = is.goal; learned = is.learned }
