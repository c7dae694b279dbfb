use Rattle.std.proofs.Common.{List, length, take}
use Rattle.px_table.specs.declared.entry.Entry.{Entry}
use Rattle.px_terms.specs.declared.term.Term.{Term}
use Rattle.px_gaps.specs.Closings.{OneOf}
use Rattle.px_diff.specs.Macros.{GathersEntries, IsMacroFitting}
use Rattle.px_diff.proofs.macros.+keep_by_rows.Given as goal

abbrev pub decreases-keep_by_rows : goal.decreases-keep_by_rows
decreases-keep_by_rows l = length l.numbers.now

abbrev pub invariant-loop-next : goal.invariant-loop-next
invariant-loop-next l =
    GathersEntries l.prefix.request.problem.now l.prefix.request.tables.now l.prefix.request.wanted.now l.prefix.request.stack.now
    l.prefix.request.model.now.atoms
    (λ (entry : Entry). OneOf (take l.next-index l.joins)
    (λ (ts : List Term). IsMacroFitting l.prefix.request.problem.now.objects l.prefix.number l.prefix.count ts l.rows entry))
    l.initial.found.items l.found.items
