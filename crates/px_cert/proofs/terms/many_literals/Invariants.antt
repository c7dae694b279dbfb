use Rattle.std.proofs.Common.{◌≡◌, ◌-◌}
use Rattle.px_cert.specs.Reading.{literal_at, many_at}
use Rattle.px_cert.proofs.Loop.{with_prefix}
use Rattle.px_cert.proofs.terms.many_literals.Given as goal

abbrev pub invariant-loop : goal.invariant-loop
invariant-loop l = with_prefix l.lits.items (many_at (literal_at l.draft l.variable_count) (l.count - l.counter) l.rest)
    ≡ many_at (literal_at l.draft l.variable_count) l.count l.bytes
