use Rattle.std.proofs.Common.{subst}
use Rattle.std.specs.Prelude.{Option}
use Rattle.px_numbers.specs.declared.stacks.Frame.{Frame}
use Rattle.px_numbers.specs.Numbers.{IsTopOf}
use Rattle.px_support.specs.Asking.{task_for}
use Rattle.px_search.specs.Steps.{DescribesMove}
use Rattle.px_search.specs.declared.step.Step.{Step}
use Rattle.px_search.proofs.TreeNodes.{no-top, push-entry, push-place, push-told, top-entry, top-place, top-told}
use Rattle.px_search.proofs.trees.move_at.Goals as goal

pub entry-requires : goal.entry-requires
entry-requires c =
    let kept = c.args.numbers.now in
    let r = c.requires.made in
    push-place (task_for c.args.asked.now) kept c.in-Push.entry r.1
    (subst (λ (s : Step). DescribesMove kept s r.1) c.in-Push.is r.3)

pub tree_move-requires-clause-entry : goal.tree_move-requires-clause-entry
tree_move-requires-clause-entry c =
    let kept = c.args.numbers.now in
    let r = c.requires.made in
    push-entry (task_for c.args.asked.now) kept c.in-Push.entry r.0 r.1 c.entry.result.now
    (subst (λ (s : Step). DescribesMove kept s r.1) c.in-Push.is r.3) r.4 c.entry.ensures

pub returns-in_ok-pushed-in-Push : goal.returns-in_ok-pushed-in-Push
returns-in_ok-pushed-in-Push c = λ node m stands is.
    let kept = c.args.numbers.now in
    push-told (task_for c.args.asked.now) kept c.in-Push.entry node m c.entry.result.now c.in_ok-pushed-in-Push.pushed
    (subst (λ (s : Step). DescribesMove kept s m) c.in-Push.is is) c.entry.ensures c.in_ok-pushed-in-Push.ensures

pub top-requires : goal.top-requires
top-requires c = let r = c.requires.made in (r.0.stack, r.2.stack)

pub unreachable-requires : goal.unreachable-requires
unreachable-requires c =
    let task = task_for c.args.asked.now in
    let kept = c.args.numbers.now in
    let r = c.requires.made in
    no-top task kept r.0 r.1 (subst (λ (s : Step). DescribesMove kept s r.1) c.in-Apply.is r.3) r.4
    (subst (λ (f : Option Frame). IsTopOf kept r.0.stack f) c.in_default.is (c.top.ensures.top r.0.stack r.2.stack))

pub entry-requires-in-Apply : goal.entry-requires-in-Apply
entry-requires-in-Apply c =
    let r = c.requires.made in
    top-place (task_for c.args.asked.now) c.args.numbers.now r.0.stack c.in-Some.frame (c.in-Some.ensures.top r.0.stack r.2.stack)

pub tree_move-requires-in-Apply-clause-entry : goal.tree_move-requires-in-Apply-clause-entry
tree_move-requires-in-Apply-clause-entry c =
    let r = c.requires.made in
    top-entry (task_for c.args.asked.now) c.args.numbers.now r.0.stack c.in-Some.frame c.entry-in-Apply.result.now
    (c.in-Some.ensures.top r.0.stack r.2.stack) r.5 c.entry-in-Apply.ensures

pub returns-in_ok-applied-in-Apply : goal.returns-in_ok-applied-in-Apply
returns-in_ok-applied-in-Apply c = λ node m stands is.
    let kept = c.args.numbers.now in
    top-told (task_for c.args.asked.now) kept node m c.in-Some.frame c.entry-in-Apply.result.now c.in_ok-applied-in-Apply.applied
    (subst (λ (s : Step). DescribesMove kept s m) c.in-Apply.is is) (c.in-Some.ensures.top node.stack stands.stack) c.entry-in-Apply.ensures
    c.in_ok-applied-in-Apply.ensures
