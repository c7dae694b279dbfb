use Rattle.std.proofs.Common.{◌∷◌, Some, slice_get, ◌≡◌}
use Rattle.px_table.specs.declared.entry.Entry.{Entry}
use Rattle.px_table.specs.declared.entry.Move.{Move}
use Rattle.px_table.specs.declared.node.Node.{Node}
use Rattle.px_numbers.specs.Numbers.{IsKeyOf}
use Rattle.px_base.proofs.Loops.{ok_map}
use Rattle.px_support.specs.Asking.{task_for}
use Rattle.px_search.specs.Steps.{DescribesMove}
use Rattle.px_ends.specs.Tasks.{after}
use Rattle.px_search.proofs.StepLaws.{push_stands}
use Rattle.px_search.proofs.CacheLaws.{any_ok, grown-numbers}
use Rattle.px_search.proofs.cache.Cache.after.Goals as goal

pub returns-in-Push-clause-there : goal.returns-in-Push-clause-there
returns-in-Push-clause-there c =
    let old = c.args.self.now.numbers in
    ok_map (λ there. (node : Node) (top : Entry) → IsKeyOf old c.args.key node → slice_get old.entries c.in-Push.entry ≡ Some top
    → IsKeyOf c.pushed.new.numbers there (record { model = node.model; stack = top ∷ node.stack }))
    (λ there. (node : Node) (m : Move) → IsKeyOf old c.args.key node → DescribesMove old c.args.step m
    → IsKeyOf c.pushed.new.numbers there (after (task_for c.args.asked.now) node m))
    (λ there h node m stands is. push_stands (task_for c.args.asked.now) old c.pushed.new.numbers there c.in-Push.entry c.args.step node m
    c.in-Push.is is (λ top at. h node top stands at)) c.pushed.result c.pushed.ensures.there

pub returns-in-Push-clause-cache : goal.returns-in-Push-clause-cache
returns-in-Push-clause-cache c =
    any_ok c.pushed.result (grown-numbers (task_for c.args.asked.now) c.args.self.now c.pushed.new.numbers c.pushed.ensures.keeps
    c.requires.cache)
