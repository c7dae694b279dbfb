use Rattle.std.proofs.Common.{arith, drop}
use Rattle.px_cert.proofs.DigitLoops.{read_is_more}
use Rattle.px_cert.proofs.words.value_below.Goals as goal

pub returns-then-value-from : goal.returns-then-value-from
returns-then-value-from c =
    let more = read_is_more c.loop-digit.value (drop c.loop-digit.digit-index c.args.digits.now) in
    let same = c.loop-digit.invariant.value in
    let high = c.if-value-from.true in
    omega (arith, c.from.ensures)
