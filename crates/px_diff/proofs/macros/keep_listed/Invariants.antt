use Rattle.std.proofs.Common.{List, take}
use Rattle.px_table.specs.declared.entry.Entry.{Entry}
use Rattle.px_terms.specs.declared.term.Term.{Term}
use Rattle.px_gaps.specs.Closings.{OneOf}
use Rattle.px_diff.specs.Macros.{GathersEntries, IsMacroBy}
use Rattle.px_diff.proofs.macros.keep_listed.Given as goal

abbrev pub invariant-loop-terms : goal.invariant-loop-terms
invariant-loop-terms l =
    GathersEntries l.prefix.request.problem.now l.prefix.request.tables.now l.prefix.request.wanted.now l.prefix.request.stack.now
    l.prefix.request.model.now.atoms
    (λ (entry : Entry). OneOf (take l.terms-index l.matches)
    (λ (terms : List Term). IsMacroBy l.prefix.request.problem.now.objects l.prefix.number l.prefix.count terms entry))
    l.initial.found.items l.found.items
