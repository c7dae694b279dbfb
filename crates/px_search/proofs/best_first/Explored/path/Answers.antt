use Rattle.std.proofs.Common.{◌≡◌, List, Some, length, slice_get}
use Rattle.px_base.proofs.Loops.{ok_map}
use Rattle.px_table.specs.declared.entry.Move.{Move}
use Rattle.px_ends.specs.ByValue.{IsFound}
use Rattle.px_support.specs.Asking.{task_for}
use Rattle.px_search.specs.Steps.{Trace}
use Rattle.px_search.proofs.LoopLaws.{reached-moves}
use Rattle.px_search.proofs.best_first.Explored.path.Goals as goal

pub path_to-requires-clause-earlier : goal.path_to-requires-clause-earlier
path_to-requires-clause-earlier c = c.requires.reached.1.numbered.earlier

pub path_to-requires-clause-traced : goal.path_to-requires-clause-traced
path_to-requires-clause-traced c = (c.requires.reached.0, c.requires.reached.1.numbered.trace)

pub returns : goal.returns
returns c =
    let task = task_for c.args.asked.now in
    let e = c.args.self.now in
    ok_map (λ (path : List Move). (found : List (List Move)) → Trace e.cache.numbers e.origins.items found
    → slice_get found (length e.origins.items) ≡ Some path) (IsFound task task.problem.weight)
    (λ path traced. reached-moves task e.cache.numbers e.nodes e.origins.items path c.requires.reached traced) c.path_to.result
    c.path_to.ensures.trace
