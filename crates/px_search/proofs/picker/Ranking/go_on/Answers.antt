use Rattle.px_base.proofs.Loops.{on_ok}
use Rattle.px_ends.specs.Ends.{node_of}
use Rattle.px_support.specs.Asking.{task_for}
use Rattle.px_search.proofs.PickerLaws.{onward-entries, onward-stands, onward-within, ranking-onward}
use Rattle.px_search.proofs.picker.Ranking.go_on.Goals as goal

pub reckoned_at-parent-requires : goal.reckoned_at-parent-requires
reckoned_at-parent-requires c =
    let r = c.requires.onward in
    onward-within (task_for c.args.asked.now) c.args.numbers.now r.0 r.1 c.args.origin c.args.there r.2 c.args.self.now r.3 r.4

pub needs_after-requires-clause-counted : goal.needs_after-requires-clause-counted
needs_after-requires-clause-counted c = c.requires.onward.3.estimates

pub needs_after-requires-clause-node : goal.needs_after-requires-clause-node
needs_after-requires-clause-node c =
    let task = task_for c.args.asked.now in
    let r = c.requires.onward in (
      node_of task r.4.parent,
      r.4.m,
      r.4.step,
      onward-stands task c.args.numbers.now r.0 c.args.origin c.args.there r.2 r.4,
      onward-entries task c.args.numbers.now r.0 c.args.origin c.args.there r.2 r.4,
    )

pub returns : goal.returns
returns c =
    let task = task_for c.args.asked.now in
    on_ok c.put.result (λ put found picked moves ranking onward within. ranking-onward task c.args.numbers.now found picked c.args.origin
    c.args.there moves c.args.self.now c.put.new.self c.needs_after.new.self c.reckoned_at-parent.result c.in_ok-needs.needs
    c.in_ok-moves.moves ranking onward within c.reckoned_at-parent.ensures c.in_ok-needs.ensures.needs c.in_ok-moves.ensures
    c.in_ok-needs.ensures.counted put) c.put.ensures
