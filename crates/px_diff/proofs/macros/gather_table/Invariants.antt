use Rattle.std.proofs.Common.{◌<◌, ℕ}
use Rattle.px_table.specs.declared.entry.Entry.{Entry}
use Rattle.px_diff.specs.Macros.{GathersEntries, IsOfPrefix}
use Rattle.px_diff.proofs.macros.gather_table.Given as goal

abbrev pub invariant-loop-count : goal.invariant-loop-count
invariant-loop-count l =
    GathersEntries l.request.problem.now l.request.tables.now l.request.wanted.now l.request.stack.now l.request.model.now.atoms
    (λ (entry : Entry). (prefix : ℕ) × (prefix < l.count) × IsOfPrefix l.number prefix entry) l.initial.found.items l.found.items
