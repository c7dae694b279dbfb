-- Each list of events has a trace.
use Rattle.std.specs.Prelude.{ℕ, List}
use Rattle.px_terms.specs.declared.atom.Atom.{Atom}
use Rattle.px_terms.specs.declared.problem.Problem.{Problem}
use Rattle.px_terms.specs.Validity.{IsValid}
use Rattle.px_table.specs.declared.table.Table.{Table}
use Rattle.px_table.specs.Tables.{IsTable}
use Rattle.px_planex.specs.declared.event.Event.{Event}
use Rattle.px_planex.specs.declared.event.Outcome.{Outcome}
use Rattle.px_planex.specs.Execution.{Running, Traces}
use Rattle.px_planex.specs.Executors.{IsActable}

-- from where nothing is remembered, or a kernel that can be acted by, any events have some outcomes
abbrev pub TracesExist : {E : Type 0} → (E → List Atom → List Atom) → Type 0
TracesExist {E} leaves = (problem : Problem) (table : Table) (bound : List (ℕ × ℕ)) (old : Running) (events : List (Event E))
    → IsValid problem → IsTable problem table → IsActable problem table old.memory.remembered
    → (outcomes : List Outcome) × ((new : Running) × Traces leaves problem table bound old events outcomes new)
