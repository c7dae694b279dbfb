use Rattle.px_table.specs.EntryOrder.{order_of_entries}
use Rattle.px_diff.specs.Firsts.{BringsFirst, IsOfTableFrom}
use Rattle.px_diff.specs.Macros.{GathersEntries, IsOfTable}
use Rattle.px_diff.specs.Pushes.{IsPushable}
use Rattle.px_diff.proofs.FirstLemmas.{match-no, match-yes, tables-left}
use Rattle.px_diff.proofs.GatherLemmas.{earlier-all, earlier-next}
use Rattle.px_diff.proofs.first_macros.gather_first_tables.Goals as goal

pub returns-then-not-branch-clause-gathers : goal.returns-then-not-branch-clause-gathers
returns-then-not-branch-clause-gathers c =
    tables-left c.args.request.now.problem.now c.args.request.now.tables.now c.args.request.now.wanted.now c.args.request.now.stack.now
    c.args.request.now.model.now.atoms c.args.enough c.loop-number.number c.args.found.now.items c.loop-number.found.items
    c.gather_first_table.new.found.items c.loop-number.invariant
    (match-no (GathersEntries c.args.request.now.problem.now c.args.request.now.tables.now c.args.request.now.wanted.now
    c.args.request.now.stack.now c.args.request.now.model.now.atoms
    (IsOfTable c.loop-number.number) c.loop-number.found.items c.gather_first_table.new.found.items)
    (BringsFirst order_of_entries (IsPushable c.args.request.now.problem.now c.args.request.now.tables.now c.args.request.now.wanted.now
    c.args.request.now.stack.now c.args.request.now.model.now.atoms) c.args.enough
    (IsOfTableFrom c.loop-number.number) c.loop-number.found.items c.gather_first_table.new.found.items)
    c.in_ok-gather_first_table.field-0 c.if-not-branch.true c.in_ok-gather_first_table.ensures.gathers)

pub loop-number-preserved : goal.loop-number-preserved
loop-number-preserved c =
    earlier-next c.args.request.now.problem.now c.args.request.now.tables.now c.args.request.now.wanted.now c.args.request.now.stack.now
    c.args.request.now.model.now.atoms c.loop-number.number c.args.found.now.items c.loop-number.found.items
    c.gather_first_table.new.found.items c.loop-number.invariant
    (match-yes (GathersEntries c.args.request.now.problem.now c.args.request.now.tables.now c.args.request.now.wanted.now
    c.args.request.now.stack.now c.args.request.now.model.now.atoms
    (IsOfTable c.loop-number.number) c.loop-number.found.items c.gather_first_table.new.found.items)
    (BringsFirst order_of_entries (IsPushable c.args.request.now.problem.now c.args.request.now.tables.now c.args.request.now.wanted.now
    c.args.request.now.stack.now c.args.request.now.model.now.atoms) c.args.enough
    (IsOfTableFrom c.loop-number.number) c.loop-number.found.items c.gather_first_table.new.found.items)
    c.in_ok-gather_first_table.field-0 c.if-not-branch.false c.in_ok-gather_first_table.ensures.gathers)

pub returns-clause-gathers : goal.returns-clause-gathers
returns-clause-gathers c =
    earlier-all c.args.request.now.problem.now c.args.request.now.tables.now c.args.request.now.wanted.now c.args.request.now.stack.now
    c.args.request.now.model.now.atoms c.loop-number.number c.args.found.now.items c.loop-number.found.items c.loop-number-test.false
    c.loop-number.invariant
