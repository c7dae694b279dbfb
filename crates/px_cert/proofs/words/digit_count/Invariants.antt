use Rattle.std.proofs.Common.{◌≡◌, ◌+◌, drop, take, true}
use Rattle.std.specs.Char.{is_ascii_digit}
use Rattle.std.specs.List.{list_all}
use Rattle.px_cert.specs.Reading.{digit_count}
use Rattle.px_cert.proofs.words.digit_count.Given as goal

abbrev pub invariant-loop-place : goal.invariant-loop-place
invariant-loop-place l = record {
  count : l.place + digit_count (drop l.place l.bytes) ≡ digit_count l.bytes;
  digits : list_all is_ascii_digit (take l.place l.bytes) ≡ true;
}
