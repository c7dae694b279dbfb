use Rattle.std.proofs.Common.{List, sym, subst}
use Rattle.px_base.specs.ListLaws.{All-at}
use Rattle.px_terms.specs.declared.term.Term.{Term}
use Rattle.px_gaps.specs.Bindings.{IsBinding}
use Rattle.px_diff.specs.Macros.{GathersEntries, IsMacroBy}
use Rattle.px_entries.specs.Parameters.{IsParameterMatch}
use Rattle.px_diff.proofs.GatherLemmas.{matched-all, matched-next, matched-none}
use Rattle.px_base.proofs.Loops.{contains_here}
use Rattle.px_diff.proofs.macros.keep_listed.Goals as goal

pub loop-terms-init : goal.loop-terms-init
loop-terms-init c =
    matched-none c.args.prefix.now.request.problem.now c.args.prefix.now.request.tables.now c.args.prefix.now.request.wanted.now
    c.args.prefix.now.request.stack.now c.args.prefix.now.request.model.now.atoms c.args.prefix.now.number c.args.prefix.now.count
    (IsMacroBy c.args.prefix.now.request.problem.now.objects c.args.prefix.now.number c.args.prefix.now.count) c.args.found.now.items

pub keep_all-requires-clause-binding : goal.keep_all-requires-clause-binding
keep_all-requires-clause-binding c =
    subst (IsBinding c.args.prefix.now.request.problem.now.objects) (sym c.as_slice.ensures)
    (All-at (IsParameterMatch c.args.prefix.now.request.problem.now.objects c.args.prefix.now.table.now.params) c.args.matches.now
    c.terms-item.result
    c.requires.matches (contains_here c.args.matches.now c.loop-terms.terms-index c.terms-item.result c.loop-terms-test.true
    c.terms-item.is)).binding

pub loop-terms-preserved : goal.loop-terms-preserved
loop-terms-preserved c =
    matched-next c.args.prefix.now.request.problem.now c.args.prefix.now.request.tables.now c.args.prefix.now.request.wanted.now
    c.args.prefix.now.request.stack.now c.args.prefix.now.request.model.now.atoms c.args.prefix.now.number c.args.prefix.now.count
    (IsMacroBy c.args.prefix.now.request.problem.now.objects c.args.prefix.now.number c.args.prefix.now.count) c.args.matches.now
    c.loop-terms.terms-index c.terms-item.result c.args.found.now.items c.loop-terms.found.items c.keep_all.new.found.items
    c.loop-terms-test.true c.terms-item.is c.loop-terms.invariant
    (subst (λ (l : List Term). GathersEntries c.args.prefix.now.request.problem.now c.args.prefix.now.request.tables.now
    c.args.prefix.now.request.wanted.now c.args.prefix.now.request.stack.now c.args.prefix.now.request.model.now.atoms
    (IsMacroBy c.args.prefix.now.request.problem.now.objects c.args.prefix.now.number c.args.prefix.now.count l) c.loop-terms.found.items
    c.keep_all.new.found.items) c.as_slice.ensures c.in_ok-keep_all.ensures.gathers)

pub returns-clause-gathers : goal.returns-clause-gathers
returns-clause-gathers c =
    matched-all c.args.prefix.now.request.problem.now c.args.prefix.now.request.tables.now c.args.prefix.now.request.wanted.now
    c.args.prefix.now.request.stack.now c.args.prefix.now.request.model.now.atoms c.args.prefix.now.number c.args.prefix.now.count
    (IsMacroBy c.args.prefix.now.request.problem.now.objects c.args.prefix.now.number c.args.prefix.now.count) c.args.matches.now
    c.loop-terms.terms-index c.args.found.now.items c.loop-terms.found.items c.loop-terms-test.false c.loop-terms.invariant
