use Rattle.std.proofs.Common.{sym, subst}
use Rattle.px_support.proofs.FoundByValue.{found_with_weight}
use Rattle.px_support.specs.Asking.{task_for}
use Rattle.px_support.specs.FoundMoves.{AreFoundMoves}
use Rattle.px_search.proofs.planning.plan_of.Goals as goal

pub support_of-requires-clause-found : goal.support_of-requires-clause-found
support_of-requires-clause-found c =
    let task = task_for c.args.asked.now in
    subst (AreFoundMoves task) (sym c.as_slice.ensures)
    (found_with_weight task c.args.asked.now.problem.now.weight c.args.moves c.requires.found)
