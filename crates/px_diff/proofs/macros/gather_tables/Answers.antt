use Rattle.px_diff.proofs.GatherLemmas.{earlier-all, earlier-next, earlier-none}
use Rattle.px_diff.proofs.macros.gather_tables.Goals as goal

pub loop-number-init : goal.loop-number-init
loop-number-init c =
    earlier-none c.args.request.now.problem.now c.args.request.now.tables.now c.args.request.now.wanted.now c.args.request.now.stack.now
    c.args.request.now.model.now.atoms c.args.found.now.items

pub loop-number-preserved : goal.loop-number-preserved
loop-number-preserved c =
    earlier-next c.args.request.now.problem.now c.args.request.now.tables.now c.args.request.now.wanted.now c.args.request.now.stack.now
    c.args.request.now.model.now.atoms c.loop-number.number c.args.found.now.items c.loop-number.found.items c.gather_table.new.found.items
    c.loop-number.invariant c.in_ok-gather_table.ensures.gathers

pub returns-clause-gathers : goal.returns-clause-gathers
returns-clause-gathers c =
    earlier-all c.args.request.now.problem.now c.args.request.now.tables.now c.args.request.now.wanted.now c.args.request.now.stack.now
    c.args.request.now.model.now.atoms c.loop-number.number c.args.found.now.items c.loop-number.found.items c.loop-number-test.false
    c.loop-number.invariant
