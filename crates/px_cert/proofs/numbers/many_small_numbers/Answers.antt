use Rattle.std.proofs.Common.{◌≡◌, ℕ, List, Some, Bor, Global, Vec, subst}
use Rattle.px_cert.specs.Reading.{IsRefusal, many_at, number_at}
use Rattle.px_cert.proofs.Loop.{carried, ends, is_done, keeps_on}
use Rattle.px_cert.proofs.numbers.many_small_numbers.Goals as goal

pub returns-in_err-next : goal.returns-in_err-next
returns-in_err-next c =
    let total = many_at (number_at c.args.limit) c.args.count c.args.bytes.now in
    let fails = subst (λ (k : ℕ). IsRefusal c.in_err-next.field-0.0 (number_at k c.loop.rest.now)) c.from.ensures c.in_err-next.ensures.read in
    carried (λ (x : Vec ℕ Global × Bor (List ℕ)). (x.0.items, x.1.now)) c.from_residual.result c.in_err-next.field-0.0 total
    c.from_residual.ensures.1
    (ends (number_at c.args.limit) c.in_err-next.field-0.0 c.loop.numbers.items c.args.count c.loop.counter c.loop.rest.now total
    c.loop-test.true fails c.loop.invariant)

pub loop-preserved : goal.loop-preserved
loop-preserved c =
    let read = subst (λ (k : ℕ). number_at k c.loop.rest.now ≡ Some (c.in_ok-next.next, c.in_ok-next.more.now)) c.from.ensures
    c.in_ok-next.ensures.read in
    keeps_on (number_at c.args.limit) c.push.new.items.items c.loop.numbers.items c.args.count c.loop.counter c.loop.rest.now
    c.in_ok-next.next c.in_ok-next.more.now (many_at (number_at c.args.limit) c.args.count c.args.bytes.now) c.in_ok-push.ensures.ok
    c.loop-test.true read c.loop.invariant

pub returns : goal.returns
returns c =
    is_done (number_at c.args.limit) c.loop.numbers.items c.args.count c.loop.counter c.loop.rest.now
    (many_at (number_at c.args.limit) c.args.count c.args.bytes.now) c.loop-test.false c.loop.invariant
