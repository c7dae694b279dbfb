use Rattle.std.proofs.Common.{◌≡◌, ◌<◌, drop}
use Rattle.px_cert.specs.Reading.{read_on}
use Rattle.px_cert.proofs.words.value_below.Given as goal

abbrev pub invariant-loop-digit : goal.invariant-loop-digit
invariant-loop-digit l = record {
  value : read_on l.value (drop l.digit-index l.digits) ≡ read_on 0 l.digits;
  small : l.value < 42949672960;
}
