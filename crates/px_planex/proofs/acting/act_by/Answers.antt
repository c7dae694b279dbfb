use Rattle.px_match.specs.MatcherValue.{kernel_with}
use Rattle.px_planex.proofs.Guarding.{guard_never}
use Rattle.px_planex.proofs.acting.act_by.Goals as goal

pub unreachable-requires : goal.unreachable-requires
unreachable-requires g c =
    guard_never (g.W.World.rules c.args.world.now) c.args.problem.now c.args.table.now (kernel_with c.args.objects.now c.args.number)
    (g.W.World.atoms c.args.world.now) c.step_of-inst.result c.requires.table c.requires.objects c.requires.rules
    c.if-not-row_holds.ensures c.step_of-inst.ensures.step c.in-Err.ensures.guard
