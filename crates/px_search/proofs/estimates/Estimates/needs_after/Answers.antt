use Rattle.std.proofs.Common.{◌≡◌, ◌+◌, ℕ}
use Rattle.px_base.proofs.Loops.{ok_map}
use Rattle.px_table.specs.declared.entry.Move.{Move}
use Rattle.px_table.specs.declared.node.Node.{Node}
use Rattle.px_numbers.specs.Numbers.{IsKeyOf}
use Rattle.px_ends.specs.Lacks.{needs}
use Rattle.px_ends.specs.Tasks.{after}
use Rattle.px_support.specs.Asking.{task_for}
use Rattle.px_search.specs.Steps.{DescribesMove}
use Rattle.px_search.proofs.PickerLaws.{pushed_entry, pushed_needs}
use Rattle.px_search.proofs.estimates.Estimates.needs_after.Goals as goal

pub entry-requires-clause-place : goal.entry-requires-clause-place
entry-requires-clause-place c =
    let r = c.requires.node in
    pushed_entry (task_for c.args.asked.now) c.args.numbers.now c.args.last c.in-Push.entry c.args.there r.0 r.1 c.in-Push.is r.2 r.3 r.4

pub returns-in_ok-lacks-in-Push-clause-needs : goal.returns-in_ok-lacks-in-Push-clause-needs
returns-in_ok-lacks-in-Push-clause-needs c =
    let task = task_for c.args.asked.now in
    let kept = c.args.numbers.now in
    ok_map (λ (n : ℕ). n ≡ c.args.before + c.in_ok-lacks-in-Push.lacks)
    (λ (n : ℕ). (node : Node) (m : Move) → c.args.before ≡ needs task node → DescribesMove kept c.args.last m
    → IsKeyOf kept c.args.there (after task node m) → n ≡ needs task (after task node m))
    (λ n n_is node m before_is describes stands. pushed_needs task kept c.args.last c.in-Push.entry c.args.there c.args.before
    c.in_ok-lacks-in-Push.lacks n node m c.in-Push.is c.in_ok-lacks-in-Push.ensures.count n_is before_is describes stands)
    c.sum.result c.sum.ensures
