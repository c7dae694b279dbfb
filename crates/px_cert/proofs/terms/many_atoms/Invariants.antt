use Rattle.std.proofs.Common.{◌≡◌, ◌-◌}
use Rattle.px_cert.specs.Reading.{atom_at, many_at}
use Rattle.px_cert.proofs.Loop.{with_prefix}
use Rattle.px_cert.proofs.terms.many_atoms.Given as goal

abbrev pub invariant-loop : goal.invariant-loop
invariant-loop l = with_prefix l.atoms.items (many_at (atom_at l.draft l.variable_count l.wild) (l.count - l.counter) l.rest)
    ≡ many_at (atom_at l.draft l.variable_count l.wild) l.count l.bytes
