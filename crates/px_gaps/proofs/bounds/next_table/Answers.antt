use Rattle.std.proofs.Common.{◌∷◌, [], Option, length, ap, arith}
use Rattle.std.proofs.lemmas.List.{length-append}
use Rattle.px_gaps.specs.declared.bounds.Bound.{Bound}
use Rattle.px_gaps.proofs.BoundLoops.{above-push}
use Rattle.px_gaps.proofs.bounds.next_table.Goals as goal

pub loop-pred-preserved : goal.loop-pred-preserved
loop-pred-preserved c =
    let old = c.loop-pred.next.items in
    let put = c.in_ok-push.ensures.ok in
    let long = length-append old (c.bound_above.result ∷ []) in
    let more = ap (length {A = Option Bound}) put in (
      omega (arith, c.loop-pred.invariant.0, long, more),
      above-push c.args.problem.now c.args.table.now old c.push.new.items.items c.loop-pred.pred c.bound_above.result
          c.loop-pred.invariant.0 c.loop-pred.invariant.1 c.bound_above.ensures put,
    )
