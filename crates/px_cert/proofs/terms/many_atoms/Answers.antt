use Rattle.px_cert.specs.Reading.{atom_at, many_at}
use Rattle.px_cert.proofs.Loop.{ends, is_done, keeps_on}
use Rattle.px_cert.proofs.terms.many_atoms.Goals as goal

pub returns-in-Err : goal.returns-in-Err
returns-in-Err c =
    let item = atom_at c.args.draft.now c.args.variable_count c.args.wild in
    ends item c.in-Err.refused c.loop.atoms.items c.args.count c.loop.counter c.loop.rest.now (many_at item c.args.count c.args.bytes.now)
    c.loop-test.true c.in-Err.ensures c.loop.invariant

pub loop-preserved : goal.loop-preserved
loop-preserved c =
    let item = atom_at c.args.draft.now c.args.variable_count c.args.wild in
    keeps_on item c.push.new.items.items c.loop.atoms.items c.args.count c.loop.counter c.loop.rest.now c.in-Ok.read.0 c.in-Ok.read.1.now
    (many_at item c.args.count c.args.bytes.now) c.in_ok-push.ensures.ok c.loop-test.true c.in-Ok.ensures c.loop.invariant

pub returns : goal.returns
returns c =
    let item = atom_at c.args.draft.now c.args.variable_count c.args.wild in
    is_done item c.loop.atoms.items c.args.count c.loop.counter c.loop.rest.now (many_at item c.args.count c.args.bytes.now)
    c.loop-test.false c.loop.invariant
