use Rattle.std.proofs.Common.{◌≡◌, sym, subst}
use Rattle.std.specs.Prelude.{OnOk}
use Rattle.px_table.specs.declared.entry.Entry.{Entry}
use Rattle.px_diff.specs.Macros.{GathersEntries}
use Rattle.px_diff.specs.Pushes.{IsRelevant}
use Rattle.px_diff.proofs.EntryLemmas.{relevant_macro}
use Rattle.px_diff.proofs.GatherLemmas.{irrelevant-none}
use Rattle.px_base.proofs.Loops.{said_no, said_yes}
use Rattle.px_diff.proofs.macros.keep_open_macro.Goals as goal

pub returns-then-not-is_macro_of-clause-gathers : goal.returns-then-not-is_macro_of-clause-gathers
returns-then-not-is_macro_of-clause-gathers c =
    irrelevant-none c.args.prefix.now.request.problem.now c.args.prefix.now.request.tables.now c.args.prefix.now.request.wanted.now
    c.args.prefix.now.request.stack.now c.args.prefix.now.request.model.now.atoms c.args.prefix.now.number c.args.prefix.now.count
    c.args.sigma.now c.args.found.now.items (λ relevant. said_no c.is_macro_of.result c.is_macro_of.ensures c.if-not-is_macro_of.true
    (relevant_macro c.args.prefix.now.request.problem.now c.args.prefix.now.request.tables.now c.args.prefix.now.number c.args.prefix.now.count
    c.args.prefix.now.table.now c.requires.prefix.table c.args.sigma.now c.args.prefix.now.request.wanted.now
    c.args.prefix.now.request.stack.now relevant))

pub is_relevant_macro-requires-clause-sigma : goal.is_relevant_macro-requires-clause-sigma
is_relevant_macro-requires-clause-sigma c = said_yes c.is_macro_of.result c.is_macro_of.ensures c.if-not-is_macro_of.false

pub returns-then-not-branch-clause-gathers : goal.returns-then-not-branch-clause-gathers
returns-then-not-branch-clause-gathers c =
    irrelevant-none c.args.prefix.now.request.problem.now c.args.prefix.now.request.tables.now c.args.prefix.now.request.wanted.now
    c.args.prefix.now.request.stack.now c.args.prefix.now.request.model.now.atoms c.args.prefix.now.number c.args.prefix.now.count
    c.args.sigma.now c.args.found.now.items (λ relevant. said_no c.in_ok-is_relevant_macro.field-0 c.in_ok-is_relevant_macro.ensures
    c.if-not-branch.true
    (subst (IsRelevant c.args.prefix.now.request.problem.now c.args.prefix.now.request.tables.now c.args.prefix.now.request.wanted.now
    c.args.prefix.now.request.stack.now) (sym c.in_ok-entry.ensures) relevant))

pub keep_relevant_macro-requires-clause-relevant : goal.keep_relevant_macro-requires-clause-relevant
keep_relevant_macro-requires-clause-relevant c =
    said_yes c.in_ok-is_relevant_macro.field-0 c.in_ok-is_relevant_macro.ensures c.if-not-branch.false

pub returns-clause-gathers : goal.returns-clause-gathers
returns-clause-gathers c =
    subst (λ (e : Entry). OnOk c.keep_relevant_macro.result
    (GathersEntries c.args.prefix.now.request.problem.now c.args.prefix.now.request.tables.now c.args.prefix.now.request.wanted.now
    c.args.prefix.now.request.stack.now c.args.prefix.now.request.model.now.atoms
    (λ other. e ≡ other) c.args.found.now.items c.keep_relevant_macro.new.found.items)) c.in_ok-entry.ensures
    c.keep_relevant_macro.ensures.gathers
