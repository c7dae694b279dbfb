use Rattle.px_cert.specs.Reading.{literal_at, many_at}
use Rattle.px_cert.proofs.Loop.{ends, is_done, keeps_on}
use Rattle.px_cert.proofs.terms.many_literals.Goals as goal

pub returns-in-Err : goal.returns-in-Err
returns-in-Err c =
    let item = literal_at c.args.draft.now c.args.variable_count in
    ends item c.in-Err.refused c.loop.lits.items c.args.count c.loop.counter c.loop.rest.now (many_at item c.args.count c.args.bytes.now)
    c.loop-test.true c.in-Err.ensures c.loop.invariant

pub loop-preserved : goal.loop-preserved
loop-preserved c =
    let item = literal_at c.args.draft.now c.args.variable_count in
    keeps_on item c.push.new.items.items c.loop.lits.items c.args.count c.loop.counter c.loop.rest.now c.in-Ok.read.0 c.in-Ok.read.1.now
    (many_at item c.args.count c.args.bytes.now) c.in_ok-push.ensures.ok c.loop-test.true c.in-Ok.ensures c.loop.invariant

pub returns : goal.returns
returns c =
    let item = literal_at c.args.draft.now c.args.variable_count in
    is_done item c.loop.lits.items c.args.count c.loop.counter c.loop.rest.now (many_at item c.args.count c.args.bytes.now)
    c.loop-test.false c.loop.invariant
