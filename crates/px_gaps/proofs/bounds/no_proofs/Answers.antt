use Rattle.std.proofs.Common.{Some, length}
use Rattle.px_gaps.specs.declared.bounds.Bound.{Bound}
use Rattle.px_gaps.proofs.AtomBounds.{table-push}
use Rattle.px_gaps.proofs.BoundLoops.{nothing-low}
use Rattle.px_gaps.proofs.bounds.no_proofs.Goals as goal

abbrev nothing : Bound
nothing = record { unfinished = 0; finished = 0 }

pub loop-pred-preserved : goal.loop-pred-preserved
loop-pred-preserved c =
    let problem = c.args.problem.now in
    let old = c.loop-pred.table.items in
    table-push problem 0 old c.push.new.items.items (Some nothing) c.loop-pred.invariant
    (nothing-low problem (length old)) c.in_ok-push.ensures.ok
