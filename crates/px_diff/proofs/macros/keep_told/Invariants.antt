use Rattle.std.proofs.Common.{List, [], ◌∷◌, take}
use Rattle.px_table.specs.declared.entry.Entry.{Entry}
use Rattle.px_terms.specs.declared.term.Term.{Term}
use Rattle.px_gaps.specs.Closings.{OneOf}
use Rattle.px_diff.specs.Macros.{GathersEntries, IsMacroFitting}
use Rattle.px_diff.proofs.macros.keep_told.Given as goal

abbrev pub invariant-loop-place : goal.invariant-loop-place
invariant-loop-place l =
    GathersEntries l.prefix.request.problem.now l.prefix.request.tables.now l.prefix.request.wanted.now l.prefix.request.stack.now
    l.prefix.request.model.now.atoms
    (λ (entry : Entry). OneOf (take l.place l.limited)
    (λ (row : List (List Term)). IsMacroFitting l.prefix.request.problem.now.objects l.prefix.number l.prefix.count l.terms
    (row ∷ []) entry)) l.initial.found.items l.found.items
