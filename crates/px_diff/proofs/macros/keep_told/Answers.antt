use Rattle.std.proofs.Common.{List, [], ◌∷◌, get_or, subst}
use Rattle.std.proofs.lemmas.List.{get_or_default}
use Rattle.px_terms.specs.declared.term.Term.{Term}
use Rattle.px_diff.specs.Macros.{GathersEntries, IsMacroFitting, IsMacroLimited, IsMacroTold}
use Rattle.px_base.proofs.Loops.{on_ok}
use Rattle.px_diff.proofs.EntryLemmas.{entries_part}
use Rattle.px_diff.proofs.GatherLemmas.{matched-all, matched-next, matched-none}
use Rattle.px_entries.proofs.Slices.{slice_one}
use Rattle.px_diff.proofs.macros.keep_told.Goals as goal

pub loop-place-init : goal.loop-place-init
loop-place-init c =
    matched-none c.args.prefix.now.request.problem.now c.args.prefix.now.request.tables.now c.args.prefix.now.request.wanted.now
    c.args.prefix.now.request.stack.now c.args.prefix.now.request.model.now.atoms c.args.prefix.now.number c.args.prefix.now.count
    (λ (row : List (List Term)). IsMacroFitting c.args.prefix.now.request.problem.now.objects c.args.prefix.now.number c.args.prefix.now.count
    c.args.terms.now (row ∷ [])) c.args.found.now.items

pub loop-place-preserved : goal.loop-place-preserved
loop-place-preserved c =
    let limited = c.args.limited.now in
    let place = c.loop-place.place in
    let row = get_or limited place [] in
    matched-next c.args.prefix.now.request.problem.now c.args.prefix.now.request.tables.now c.args.prefix.now.request.wanted.now
    c.args.prefix.now.request.stack.now c.args.prefix.now.request.model.now.atoms c.args.prefix.now.number c.args.prefix.now.count
    (λ (row : List (List Term)). IsMacroFitting c.args.prefix.now.request.problem.now.objects c.args.prefix.now.number
    c.args.prefix.now.count c.args.terms.now (row ∷ [])) limited place row c.args.found.now.items c.loop-place.found.items
    c.keep_fitting.new.found.items
    c.loop-place-test.true (get_or_default limited place [] row c.loop-place-test.true) c.loop-place.invariant
    (subst (λ (l : List (List (List Term))). GathersEntries c.args.prefix.now.request.problem.now c.args.prefix.now.request.tables.now
    c.args.prefix.now.request.wanted.now c.args.prefix.now.request.stack.now c.args.prefix.now.request.model.now.atoms
    (IsMacroFitting c.args.prefix.now.request.problem.now.objects c.args.prefix.now.number c.args.prefix.now.count c.args.terms.now l)
    c.loop-place.found.items c.keep_fitting.new.found.items)
    (slice_one limited place [] c.loop-place-test.true) c.in_ok-keep_fitting.ensures.gathers)

pub returns-clause-gathers : goal.returns-clause-gathers
returns-clause-gathers c =
    let limit = c.args.prefix.now.request.problem.now.objects in
    let number = c.args.prefix.now.number in
    let count = c.args.prefix.now.count in
    let terms = c.args.terms.now in
    on_ok c.keep_fitting-2.result (λ gathers.
    entries_part c.args.prefix.now.request.problem.now c.args.prefix.now.request.tables.now c.args.prefix.now.request.wanted.now
    c.args.prefix.now.request.stack.now c.args.prefix.now.request.model.now.atoms
    (IsMacroLimited limit number count terms c.args.limited.now) (IsMacroFitting limit number count terms c.args.rows.now)
    (IsMacroTold limit number count c.args.rows.now c.args.limited.now terms) c.args.found.now.items c.loop-place.found.items
    c.keep_fitting-2.new.found.items
    (λ entry w. w) (matched-all c.args.prefix.now.request.problem.now c.args.prefix.now.request.tables.now c.args.prefix.now.request.wanted.now
    c.args.prefix.now.request.stack.now c.args.prefix.now.request.model.now.atoms c.args.prefix.now.number c.args.prefix.now.count
    (λ (row : List (List Term)). IsMacroFitting c.args.prefix.now.request.problem.now.objects c.args.prefix.now.number
    c.args.prefix.now.count c.args.terms.now (row ∷ [])) c.args.limited.now c.loop-place.place c.args.found.now.items
    c.loop-place.found.items c.loop-place-test.false c.loop-place.invariant) gathers) c.keep_fitting-2.ensures.gathers
