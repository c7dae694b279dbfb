use Rattle.std.proofs.Common.{ℕ, List, Bor, Global, Vec}
use Rattle.px_cert.specs.Reading.{many_at, number_at}
use Rattle.px_cert.proofs.Loop.{carried, ends, is_done, keeps_on}
use Rattle.px_cert.proofs.numbers.many_numbers.Goals as goal

pub returns-in_err-next : goal.returns-in_err-next
returns-in_err-next c =
    let total = many_at (number_at c.args.limit) c.args.count c.args.bytes.now in
    carried (λ (x : Vec ℕ Global × Bor (List ℕ)). (x.0.items, x.1.now)) c.from_residual.result c.in_err-next.field-0.0 total
    c.from_residual.ensures.1
    (ends (number_at c.args.limit) c.in_err-next.field-0.0 c.loop.numbers.items c.args.count c.loop.counter c.loop.rest.now total
    c.loop-test.true c.in_err-next.ensures.read c.loop.invariant)

pub loop-preserved : goal.loop-preserved
loop-preserved c =
    keeps_on (number_at c.args.limit) c.push.new.items.items c.loop.numbers.items c.args.count c.loop.counter c.loop.rest.now
    c.in_ok-next.next c.in_ok-next.more.now (many_at (number_at c.args.limit) c.args.count c.args.bytes.now) c.in_ok-push.ensures.ok
    c.loop-test.true c.in_ok-next.ensures.read c.loop.invariant

pub returns : goal.returns
returns c =
    is_done (number_at c.args.limit) c.loop.numbers.items c.args.count c.loop.counter c.loop.rest.now
    (many_at (number_at c.args.limit) c.args.count c.args.bytes.now) c.loop-test.false c.loop.invariant
