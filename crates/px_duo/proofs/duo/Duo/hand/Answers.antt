use Rattle.std.specs.Prelude.{◌≡◌}
use Rattle.std.proofs.Common.{subst, sym}
use Rattle.px_duo.specs.Duos.{HappensTo, both, duo_running}
use Rattle.px_duo.specs.DuoValue.{DuoValue}
use Rattle.px_duo.specs.declared.event.Who.{Who}
use Rattle.px_duo.specs.declared.event.Who.TheVariants.{First, Second}
use Rattle.px_duo.proofs.Stepping.{by_first, by_second}
use Rattle.px_duo.proofs.duo.Duo.hand.Goals as goal

pub returns-in-First-clause-happens : goal.returns-in-First-clause-happens
returns-in-First-clause-happens g c =
    let first = c.self.inside.first in
    let second = c.self.inside.second in
    subst (λ (who : Who). HappensTo g.W.World.leaves c.args.self.now.problem c.args.self.now.tables who
    (duo_running (g.W.World.atoms c.args.world.now) c.args.self.now.memories) c.args.event c.step.result
    (duo_running (g.W.World.atoms c.step.new.world) (both c.step.new.self.memory c.self.inside.second.memory))) (sym c.in-First.is)
    (subst (λ (d : DuoValue). HappensTo g.W.World.leaves d.problem d.tables First
    (duo_running (g.W.World.atoms c.args.world.now) d.memories) c.args.event c.step.result
    (duo_running (g.W.World.atoms c.step.new.world) (both c.step.new.self.memory c.self.inside.second.memory))) c.self.view_is
    (by_first g.W.World.leaves first.problem (both first.table second.table) first.bound (g.W.World.atoms c.args.world.now)
    (g.W.World.atoms c.step.new.world) (both first.memory second.memory) c.step.new.self.memory c.args.event c.step.result
    c.self.invariant.first_unbound c.step.ensures.happens))

pub returns-in-Second-clause-happens : goal.returns-in-Second-clause-happens
returns-in-Second-clause-happens g c =
    let first = c.self.inside.first in
    let second = c.self.inside.second in
    subst (λ (who : Who). HappensTo g.W.World.leaves c.args.self.now.problem c.args.self.now.tables who
    (duo_running (g.W.World.atoms c.args.world.now) c.args.self.now.memories) c.args.event c.step-in-Second.result
    (duo_running (g.W.World.atoms c.step-in-Second.new.world) (both c.self.inside.first.memory c.step-in-Second.new.self.memory))) (sym c.in-Second.is)
    (subst (λ (d : DuoValue). HappensTo g.W.World.leaves d.problem d.tables Second
    (duo_running (g.W.World.atoms c.args.world.now) d.memories) c.args.event c.step-in-Second.result
    (duo_running (g.W.World.atoms c.step-in-Second.new.world) (both c.self.inside.first.memory c.step-in-Second.new.self.memory))) c.self.view_is
    (by_second g.W.World.leaves first.problem (both first.table second.table) second.problem second.bound
    (g.W.World.atoms c.args.world.now) (g.W.World.atoms c.step-in-Second.new.world) (both first.memory second.memory) c.step-in-Second.new.self.memory
    c.args.event c.step-in-Second.result c.self.invariant.same_problem c.self.invariant.second_unbound c.step-in-Second.ensures.happens))
