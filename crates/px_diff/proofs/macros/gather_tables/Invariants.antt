use Rattle.std.proofs.Common.{◌<◌, ℕ}
use Rattle.px_table.specs.declared.entry.Entry.{Entry}
use Rattle.px_diff.specs.Macros.{GathersEntries, IsOfTable}
use Rattle.px_diff.proofs.macros.gather_tables.Given as goal

abbrev pub invariant-loop-number : goal.invariant-loop-number
invariant-loop-number l =
    GathersEntries l.request.problem.now l.request.tables.now l.request.wanted.now l.request.stack.now l.request.model.now.atoms
    (λ (entry : Entry). (number : ℕ) × (number < l.number) × IsOfTable number entry) l.initial.found.items l.found.items
