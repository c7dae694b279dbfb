-- The steps that moves take fit.
use Rattle.std.specs.Prelude.{List, [], ◌∷◌, take, All}
use Rattle.std.proofs.Common.{refl, sym, subst}
use Rattle.std.proofs.lemmas.List.Elements.{All-append, All-cons, All-head, All-nil, All-tail}
use Rattle.px_terms.specs.Operators.{results_of}
use Rattle.px_terms.specs.Sorts.{IsWellSorted}
use Rattle.px_terms.specs.declared.atom.Atom.{Atom}
use Rattle.px_table.specs.declared.entry.Entry.{Entry}
use Rattle.px_table.specs.declared.entry.Entry.TheVariants.{Op, Macro}
use Rattle.px_table.specs.declared.entry.Move.{Move}
use Rattle.px_table.specs.declared.entry.Move.TheVariants.{Apply, Push}
use Rattle.px_table.specs.declared.table.Table.{Table}
use Rattle.px_table.specs.Kernels.{steps_under}
use Rattle.px_entries.specs.Entries.{IsEntry, effect_of}
use Rattle.px_entries.proofs.RowTurns.{table_is}
use Rattle.px_ends.specs.Moves.{CanMake}
use Rattle.px_ends.specs.Tasks.{IsAllowed, Task, after, steps_of}

module _ (task : Task) where
  -- what an entry does fits
  entry-fits : (entry : Entry) → IsEntry task.problem task.tables entry → All (IsWellSorted task.problem) (effect_of task.tables entry)
  entry-fits (Op inst) is = All-cons (IsWellSorted task.problem) inst [] is.fits (All-nil (IsWellSorted task.problem))
  entry-fits (Macro number prefix sigma) (table, at, is) =
      subst (λ (t : Table). All (IsWellSorted task.problem) (take prefix (steps_under t sigma)))
      (sym (table_is task.tables number table at)) is.fitting

  pub steps-fit : (model : List Atom) (stack : List Entry) (moves : List Move) → All (IsEntry task.problem task.tables) stack
      → CanMake (IsAllowed task) (after task) (record { model = model; stack = stack }) moves
      → All (IsWellSorted task.problem) (steps_of task.tables stack moves)
  steps-fit model stack [] entries can = All-nil (IsWellSorted task.problem)
  steps-fit model stack (Push entry ∷ moves) entries can =
      steps-fit model (entry ∷ stack) moves (All-cons (IsEntry task.problem task.tables) entry stack can.0.0.is_entry entries) can.1
  steps-fit model [] (Apply ∷ moves) entries can = absurd (can.0.0 refl)
  steps-fit model (entry ∷ below) (Apply ∷ moves) entries can =
      All-append (IsWellSorted task.problem) (effect_of task.tables entry) (steps_of task.tables below moves)
      (entry-fits entry (All-head (IsEntry task.problem task.tables) entry below entries))
      (steps-fit (results_of task.problem model (effect_of task.tables entry)) below moves
      (All-tail (IsEntry task.problem task.tables) entry below entries) can.1)
