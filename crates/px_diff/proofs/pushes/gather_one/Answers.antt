use Rattle.std.proofs.Common.{subst}
use Rattle.px_table.specs.declared.entry.Entry.TheVariants.{Op}
use Rattle.px_entries.specs.Entries.{obligations_of}
use Rattle.px_entries.proofs.JoinSteps.{applicable-open}
use Rattle.px_gaps.specs.Known.{IsKnownOf}
use Rattle.px_base.proofs.Loops.{said_yes}
use Rattle.px_diff.proofs.EntryLemmas.{limits_entry}
use Rattle.px_diff.proofs.Gathered.{gathers_closed, gathers_one}
use Rattle.px_diff.proofs.pushes.gather_one.Goals as goal

pub known_entry-requires-clause-entry : goal.known_entry-requires-clause-entry
known_entry-requires-clause-entry c =
    (said_yes c.is_relevant.result c.is_relevant.ensures c.if-not-is_relevant.false).is_entry

pub returns-in-Ok-Applicable-clause-gathers : goal.returns-in-Ok-Applicable-clause-gathers
returns-in-Ok-Applicable-clause-gathers c =
    let problem = c.args.request.now.problem.now in
    let tables = c.args.request.now.tables.now in
    let model = c.args.request.now.model.now.atoms in
    let inst = c.args.inst.now in
    let relevant = said_yes c.is_relevant.result c.is_relevant.ensures c.if-not-is_relevant.false in
    let known =
    subst (IsKnownOf problem (obligations_of problem tables model (Op inst))) c.in-Ok-Applicable.field-0-is c.in-Ok-Applicable.ensures in
    gathers_one problem tables c.args.request.now.wanted.now c.args.request.now.stack.now model inst c.args.found.now.items
    c.push.new.items.items c.in_ok-push-in-Ok-Applicable.ensures.ok
    (record {
      relevant = relevant;
      open_entry = applicable-open problem (obligations_of problem tables model (Op inst)) known.0;
    })
    known.1.unlimited

pub returns-in-Ok-Open-clause-gathers : goal.returns-in-Ok-Open-clause-gathers
returns-in-Ok-Open-clause-gathers c =
    let problem = c.args.request.now.problem.now in
    let tables = c.args.request.now.tables.now in
    let model = c.args.request.now.model.now.atoms in
    let inst = c.args.inst.now in
    let relevant = said_yes c.is_relevant.result c.is_relevant.ensures c.if-not-is_relevant.false in
    let known =
    subst (IsKnownOf problem (obligations_of problem tables model (Op inst))) c.in-Ok-Open.field-0-is c.in-Ok-Open.ensures in
    gathers_one problem tables c.args.request.now.wanted.now c.args.request.now.stack.now model inst c.args.found.now.items
    c.push-in-Ok-Open.new.items.items c.in_ok-push-in-Ok-Open.ensures.ok
    (record { relevant = relevant; open_entry = known.open_needs }) known.questions.unlimited

pub returns-in-Ok-Closed-clause-gathers : goal.returns-in-Ok-Closed-clause-gathers
returns-in-Ok-Closed-clause-gathers c =
    let problem = c.args.request.now.problem.now in
    let tables = c.args.request.now.tables.now in
    let model = c.args.request.now.model.now.atoms in
    let inst = c.args.inst.now in
    let known =
    subst (IsKnownOf problem (obligations_of problem tables model (Op inst))) c.in-Ok-Closed.field-0-is c.in-Ok-Closed.ensures in
    gathers_closed problem tables c.args.request.now.wanted.now c.args.request.now.stack.now model inst c.args.found.now.items known.0
    known.1.unlimited

pub returns-in-Ok-Limited-clause-limited : goal.returns-in-Ok-Limited-clause-limited
returns-in-Ok-Limited-clause-limited c =
    let problem = c.args.request.now.problem.now in
    let tables = c.args.request.now.tables.now in
    let model = c.args.request.now.model.now.atoms in
    let inst = c.args.inst.now in
    let relevant = said_yes c.is_relevant.result c.is_relevant.ensures c.if-not-is_relevant.false in
    let known =
    subst (IsKnownOf problem (obligations_of problem tables model (Op inst))) c.in-Ok-Limited.field-0-is c.in-Ok-Limited.ensures in
    limits_entry problem tables c.args.request.now.wanted.now c.args.request.now.stack.now model (Op inst) c.in-Ok-Limited.limit
    relevant known
