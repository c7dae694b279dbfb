use Rattle.std.proofs.Common.{◌≡◌, ◌-◌, ◌+◌, ◌*◌}
use Rattle.px_cert.specs.Reading.{many_at, proof_at}
use Rattle.px_cert.proofs.Loop.{with_prefix}
use Rattle.px_cert.proofs.proof_terms.+levels.Given as goal

abbrev pub invariant-many_proofs-loop : goal.invariant-many_proofs-loop
invariant-many_proofs-loop l = with_prefix l.proofs.items (many_at (proof_at l.draft l.levels) (l.count - l.counter) l.rest)
    ≡ many_at (proof_at l.draft l.levels) l.count l.bytes

abbrev pub decreases-proof : goal.decreases-proof
decreases-proof l = 3 * l.levels

abbrev pub decreases-step : goal.decreases-step
decreases-step l = 3 * l.levels + 2

abbrev pub decreases-many_proofs : goal.decreases-many_proofs
decreases-many_proofs l = 3 * l.levels + 1
