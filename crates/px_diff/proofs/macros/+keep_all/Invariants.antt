use Rattle.px_gaps.specs.Bindings.{open_term_count}
use Rattle.px_diff.specs.Macros.{GathersEntries, IsMacroBefore}
use Rattle.px_diff.proofs.macros.+keep_all.Given as goal

abbrev pub decreases-keep_all : goal.decreases-keep_all
decreases-keep_all l = open_term_count l.terms.now

abbrev pub invariant-loop-object : goal.invariant-loop-object
invariant-loop-object l =
    GathersEntries l.prefix.request.problem.now l.prefix.request.tables.now l.prefix.request.wanted.now l.prefix.request.stack.now
    l.prefix.request.model.now.atoms
    (IsMacroBefore l.prefix.request.problem.now.objects l.prefix.number l.prefix.count l.terms l.parameter l.object) l.initial.found.items
    l.found.items
