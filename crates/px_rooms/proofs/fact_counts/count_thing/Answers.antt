use Rattle.std.proofs.Common.{length, ap, arith}
use Rattle.px_rooms.specs.States.{thing_atoms}
use Rattle.px_rooms.proofs.fact_counts.count_thing.Goals as goal

pub returns-in-Box-clause-count : goal.returns-in-Box-clause-count
returns-in-Box-clause-count c = λ number.
    let placed = c.count_placed.ensures.count number c.in-Box.room in
    omega (arith, placed, ap (λ standing. length (thing_atoms number standing)) c.in-Box.is)
