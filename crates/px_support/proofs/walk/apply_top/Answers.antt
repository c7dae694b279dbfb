use Rattle.std.proofs.Common.{◌≡◌, length, reverse, rules, refl, ap}
use Rattle.px_support.specs.Asking.{task_for}
use Rattle.px_support.proofs.GoingLaws.{if_taken_top, no_items, top-entry, top-findable, top-is}
use Rattle.px_support.proofs.walk.apply_top.Goals as goal

pub apply_entry-requires-clause-entry : goal.apply_entry-requires-clause-entry
apply_entry-requires-clause-entry c =
    top-entry (task_for c.args.asked.now) (reverse c.args.walk.stack.items) (reverse c.pop.new.self.items) c.in-Some.entry
    (top-is c.args.walk.stack.items c.pop.new.self.items c.in-Some.entry (rw c.in-Some.is at c.pop.ensures.items)) c.requires.stack

pub apply_entry-requires-clause-findable : goal.apply_entry-requires-clause-findable
apply_entry-requires-clause-findable c =
    top-findable (task_for c.args.asked.now) c.args.walk.model.atoms (reverse c.args.walk.stack.items)
    (reverse c.pop.new.self.items) c.in-Some.entry
    (top-is c.args.walk.stack.items c.pop.new.self.items c.in-Some.entry (rw c.in-Some.is at c.pop.ensures.items)) c.requires.takeable.1

pub returns : goal.returns
returns c =
    if_taken_top (task_for c.args.asked.now) c.in-Some.entry c.args.walk _ c.apply_entry.result
    (rw c.in-Some.is at c.pop.ensures.items) refl refl refl c.apply_entry.ensures

pub unreachable-requires : goal.unreachable-requires
unreachable-requires c =
    let gone : length c.args.walk.stack.items ≡ 0 = search (rules, (rw c.in-None.is at c.pop.ensures.cases).0, c.args.walk.stack.ok) in
    c.requires.takeable.0 (ap reverse (no_items c.args.walk.stack.items gone))
