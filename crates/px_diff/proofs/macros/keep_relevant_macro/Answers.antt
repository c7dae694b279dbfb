use Rattle.std.proofs.Common.{sym, subst}
use Rattle.std.specs.Prelude.{All}
use Rattle.px_table.specs.declared.entry.Entry.{Entry}
use Rattle.px_entries.specs.Entries.{obligations_of}
use Rattle.px_gaps.specs.Needs.{IsOpen}
use Rattle.px_diff.specs.MacroOpen.{IsSettledMark}
use Rattle.px_diff.proofs.EntryLemmas.{entries_closed, entries_one}
use Rattle.px_diff.proofs.GatherLemmas.{prefix-table}
use Rattle.px_diff.proofs.MacroOpen.{macro-told}
use Rattle.px_entries.proofs.PlainLaws.{some-no, some-yes}
use Rattle.px_diff.proofs.macros.keep_relevant_macro.Goals as goal

pub returns-in_ok-push-in-Some-true-clause-gathers : goal.returns-in_ok-push-in-Some-true-clause-gathers
returns-in_ok-push-in-Some-true-clause-gathers c =
    let prefix = c.args.prefix.now in
    let problem = prefix.request.problem.now in
    let tables = prefix.request.tables.now in
    let model = prefix.request.model.now.atoms in
    let suffice = c.requires.prefix.suffice c.if-not-prefix.false in
    let told =
    macro-told problem c.requires.prefix.problem tables prefix.number prefix.table.now c.requires.prefix.table
    (prefix-table prefix c.requires.prefix) prefix.count c.args.sigma.now c.requires.sigma suffice.1 suffice.0 model
    c.atoms-facts.ensures.model.ascending in
    let settled =
    some-yes {P = All (IsSettledMark problem model prefix.count c.args.sigma.now) prefix.table.now.marks}
    c.in_ok-are_settled_marks.field-0 c.in-Some-true.field-0 c.in-Some-true.is c.in-Some-true.field-0-test
    c.in_ok-are_settled_marks.ensures in
    entries_one problem tables prefix.request.wanted.now prefix.request.stack.now model c.args.entry c.args.found.now.items
    c.push.new.items.items c.in_ok-push-in-Some-true.ensures.ok c.requires.relevant
    (subst (λ (e : Entry). IsOpen problem (obligations_of problem tables model e)) (sym c.requires.entry) (told.0 settled))
    (suffice.0 model c.atoms-facts.ensures.model.ascending c.args.entry c.requires.relevant.is_entry)

pub returns-in-Some-false-clause-gathers : goal.returns-in-Some-false-clause-gathers
returns-in-Some-false-clause-gathers c =
    let prefix = c.args.prefix.now in
    let problem = prefix.request.problem.now in
    let tables = prefix.request.tables.now in
    let model = prefix.request.model.now.atoms in
    let suffice = c.requires.prefix.suffice c.if-not-prefix.false in
    let told =
    macro-told problem c.requires.prefix.problem tables prefix.number prefix.table.now c.requires.prefix.table
    (prefix-table prefix c.requires.prefix) prefix.count c.args.sigma.now c.requires.sigma suffice.1 suffice.0 model
    c.atoms-facts.ensures.model.ascending in
    let unsettled =
    some-no {P = All (IsSettledMark problem model prefix.count c.args.sigma.now) prefix.table.now.marks} c.in_ok-are_settled_marks.field-0
    c.in-Some-false.field-0 c.in-Some-false.is c.in-Some-false.field-0-test c.in_ok-are_settled_marks.ensures in
    entries_closed problem tables prefix.request.wanted.now prefix.request.stack.now model c.args.entry c.args.found.now.items
    (λ is. unsettled (told.1 (subst (λ (e : Entry). IsOpen problem (obligations_of problem tables model e)) c.requires.entry is)))
    (suffice.0 model c.atoms-facts.ensures.model.ascending c.args.entry c.requires.relevant.is_entry)
