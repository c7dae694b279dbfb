use Rattle.std.proofs.Common.{◌≡◌}
use Rattle.px_gaps.specs.Bounds.{IsBoundAbove, bound_either}
use Rattle.px_gaps.specs.declared.bounds.Bound.{Bound}
use Rattle.px_base.proofs.Loops.{some_map}
use Rattle.px_gaps.proofs.UseBounds.{bound_above-either}
use Rattle.px_gaps.proofs.bounds.bound_above.Goals as goal

pub returns : goal.returns
returns c =
    let problem = c.args.problem.now in
    let table = c.args.table.now in
    let leaves = c.bound_of_leaves.result in
    let uses = c.in_ok-uses.uses in
    some_map (λ (both : Bound). both ≡ bound_either leaves uses) (IsBoundAbove problem table c.args.pred) c.either.result
    (λ both is. bound_above-either problem table c.args.pred leaves uses both c.bound_of_leaves.ensures c.in_ok-uses.ensures is)
    c.either.ensures
