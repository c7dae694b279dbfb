use Rattle.std.specs.Prelude.{◌≤◌, ◌+◌, length}
use Rattle.std.proofs.Common.{subst, sym}
use Rattle.px_planex.specs.Executors.{places_of, running}
use Rattle.px_planex.proofs.Places.{act_number}
use Rattle.px_planex.proofs.planex.Planex.step.Goals as goal

pub returns-in-Act-clause-number : goal.returns-in-Act-clause-number
returns-in-Act-clause-number g c =
    let self = c.args.self.now in
    subst (λ event. length (g.W.World.atoms c.act.new.world)
    ≤ length (g.W.World.atoms c.args.world.now) + places_of self.problem self.table self.memory event) (sym c.in-Act.is)
    (act_number g.W.World.leaves self.problem self.table self.bound (running (g.W.World.atoms c.args.world.now) self.memory)
    (running (g.W.World.atoms c.act.new.world) c.act.new.self.memory) c.act.result c.act.ensures.happens)
