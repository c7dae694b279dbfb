use Rattle.std.proofs.Common.{refl}
use Rattle.px_base.proofs.Loops.{on_ok}
use Rattle.px_ends.specs.Tasks.{initial_node}
use Rattle.px_support.specs.Asking.{task_for}
use Rattle.px_search.proofs.PickerLaws.{ranking-first}
use Rattle.px_search.proofs.picker.Ranking.start.Goals as goal

pub needs-requires-clause-counted : goal.needs-requires-clause-counted
needs-requires-clause-counted c = c.requires.first.estimates c.args.numbers.now

pub returns : goal.returns
returns c =
    let task = task_for c.args.asked.now in
    on_ok c.put.result (λ put. ranking-first task c.args.numbers.now (record { needs = c.in_ok-needs.needs; moves = 0 })
    (record c.args.self.now { estimates = c.needs.new.self }) c.put.new.self c.requires.first.agenda c.requires.first.reckoned put
    (c.in_ok-needs.ensures.needs (initial_node task) c.requires.node) refl c.in_ok-needs.ensures.counted) c.put.ensures
