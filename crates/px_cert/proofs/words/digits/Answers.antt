use Rattle.std.proofs.Common.{◌≡◌, true, false}
use Rattle.px_cert.specs.Reading.{is_plain}
use Rattle.px_cert.proofs.DigitLoops.{digits_high, digits_other, digits_read}
use Rattle.px_cert.proofs.words.digits.Goals as goal

pub returns-then-not-is_plain-clause-read : goal.returns-then-not-is_plain-clause-read
returns-then-not-is_plain-clause-read c =
    let other : is_plain c.split_at.result.0.now ≡ false = cc in
    digits_other c.args.limit c.args.bytes.now c.split_at.result.0.now c.digit_count.result c.digit_count.ensures.count
    c.split_at.ensures.front other

pub returns-in-Some-clause-read : goal.returns-in-Some-clause-read
returns-in-Some-clause-read c =
    let plain : is_plain c.split_at.result.0.now ≡ true = cc in
    digits_read c.args.limit c.args.bytes.now c.split_at.result.0.now c.digit_count.result c.digit_count.ensures.count
    c.split_at.ensures.front c.in-Some.value c.split_at.result.1.now plain c.in-Some.ensures.0 c.in-Some.ensures.1 c.split_at.ensures.back

pub returns-in-None-clause-read : goal.returns-in-None-clause-read
returns-in-None-clause-read c =
    digits_high c.args.limit c.args.bytes.now c.split_at.result.0.now c.digit_count.result c.digit_count.ensures.count
    c.split_at.ensures.front c.in-None.ensures
