use Rattle.std.proofs.Common.{◌≡◌}
use Rattle.std.specs.Prelude.{Contains}
use Rattle.px_base.proofs.Loops.{AllBefore}
use Rattle.px_table.specs.declared.mark.Mark.{Mark}
use Rattle.px_table.specs.Kernels.{atom_under}
use Rattle.px_planex.proofs.Taking.{HoldsIfOf}
use Rattle.px_planex.proofs.acting.row_holds.Given as goal

abbrev pub invariant-loop-mark : goal.invariant-loop-mark
invariant-loop-mark g l = AllBefore (HoldsIfOf l.row l.objects (g.W.World.atoms l.world)) l.table.marks l.mark-index
