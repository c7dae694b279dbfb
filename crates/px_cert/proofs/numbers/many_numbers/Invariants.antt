use Rattle.std.proofs.Common.{◌≡◌, ◌-◌}
use Rattle.px_cert.specs.Reading.{many_at, number_at}
use Rattle.px_cert.proofs.Loop.{with_prefix}
use Rattle.px_cert.proofs.numbers.many_numbers.Given as goal

abbrev pub invariant-loop : goal.invariant-loop
invariant-loop l = with_prefix l.numbers.items (many_at (number_at l.limit) (l.count - l.counter) l.rest) ≡ many_at (number_at l.limit) l.count l.bytes
