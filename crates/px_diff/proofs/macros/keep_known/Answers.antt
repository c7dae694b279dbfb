use Rattle.std.proofs.Common.{subst}
use Rattle.px_entries.specs.Entries.{obligations_of}
use Rattle.px_gaps.specs.Known.{IsKnownOf}
use Rattle.px_diff.proofs.EntryLemmas.{entries_closed, entries_one, limits_entry}
use Rattle.px_entries.proofs.JoinSteps.{applicable-open}
use Rattle.px_diff.proofs.macros.keep_known.Goals as goal

pub known_entry-requires-clause-problem : goal.known_entry-requires-clause-problem
known_entry-requires-clause-problem c = c.requires.prefix.problem

pub known_entry-requires-clause-tables : goal.known_entry-requires-clause-tables
known_entry-requires-clause-tables c = c.requires.prefix.tables

pub known_entry-requires-clause-entry : goal.known_entry-requires-clause-entry
known_entry-requires-clause-entry c = c.requires.relevant.is_entry

pub returns-in_ok-push-in-Ok-Applicable-clause-gathers : goal.returns-in_ok-push-in-Ok-Applicable-clause-gathers
returns-in_ok-push-in-Ok-Applicable-clause-gathers c =
    let known =
    subst (IsKnownOf c.args.prefix.now.request.problem.now
    (obligations_of c.args.prefix.now.request.problem.now c.args.prefix.now.request.tables.now c.args.prefix.now.request.model.now.atoms
    c.args.entry)) c.in-Ok-Applicable.field-0-is c.in-Ok-Applicable.ensures in
    entries_one c.args.prefix.now.request.problem.now c.args.prefix.now.request.tables.now c.args.prefix.now.request.wanted.now
    c.args.prefix.now.request.stack.now c.args.prefix.now.request.model.now.atoms c.args.entry c.args.found.now.items
    c.push.new.items.items c.in_ok-push-in-Ok-Applicable.ensures.ok c.requires.relevant
    (applicable-open c.args.prefix.now.request.problem.now
    (obligations_of c.args.prefix.now.request.problem.now c.args.prefix.now.request.tables.now c.args.prefix.now.request.model.now.atoms
    c.args.entry) known.0) known.1.unlimited

pub returns-in_ok-push-in-Ok-Open-clause-gathers : goal.returns-in_ok-push-in-Ok-Open-clause-gathers
returns-in_ok-push-in-Ok-Open-clause-gathers c =
    let known =
    subst (IsKnownOf c.args.prefix.now.request.problem.now
    (obligations_of c.args.prefix.now.request.problem.now c.args.prefix.now.request.tables.now c.args.prefix.now.request.model.now.atoms
    c.args.entry)) c.in-Ok-Open.field-0-is c.in-Ok-Open.ensures in
    entries_one c.args.prefix.now.request.problem.now c.args.prefix.now.request.tables.now c.args.prefix.now.request.wanted.now
    c.args.prefix.now.request.stack.now c.args.prefix.now.request.model.now.atoms c.args.entry c.args.found.now.items
    c.push-in-Ok-Open.new.items.items c.in_ok-push-in-Ok-Open.ensures.ok c.requires.relevant known.open_needs known.questions.unlimited

pub returns-in-Ok-Closed-clause-gathers : goal.returns-in-Ok-Closed-clause-gathers
returns-in-Ok-Closed-clause-gathers c =
    let known =
    subst (IsKnownOf c.args.prefix.now.request.problem.now
    (obligations_of c.args.prefix.now.request.problem.now c.args.prefix.now.request.tables.now c.args.prefix.now.request.model.now.atoms
    c.args.entry)) c.in-Ok-Closed.field-0-is c.in-Ok-Closed.ensures in
    entries_closed c.args.prefix.now.request.problem.now c.args.prefix.now.request.tables.now c.args.prefix.now.request.wanted.now
    c.args.prefix.now.request.stack.now c.args.prefix.now.request.model.now.atoms c.args.entry c.args.found.now.items known.0
    known.1.unlimited

pub returns-in-Ok-Limited-clause-limited : goal.returns-in-Ok-Limited-clause-limited
returns-in-Ok-Limited-clause-limited c =
    let known =
    subst (IsKnownOf c.args.prefix.now.request.problem.now
    (obligations_of c.args.prefix.now.request.problem.now c.args.prefix.now.request.tables.now c.args.prefix.now.request.model.now.atoms
    c.args.entry)) c.in-Ok-Limited.field-0-is c.in-Ok-Limited.ensures in
    limits_entry c.args.prefix.now.request.problem.now c.args.prefix.now.request.tables.now c.args.prefix.now.request.wanted.now
    c.args.prefix.now.request.stack.now c.args.prefix.now.request.model.now.atoms c.args.entry c.in-Ok-Limited.limit
    c.requires.relevant known
