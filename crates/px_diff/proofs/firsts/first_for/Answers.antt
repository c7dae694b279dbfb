use Rattle.px_diff.specs.Firsts.{AreFirstEntries}
use Rattle.px_diff.proofs.FirstLemmas.{first-macros, first-operators, first-ordered, not-all}
use Rattle.px_diff.proofs.firsts.first_for.Goals as goal

pub returns-then-not-first-clause-first : goal.returns-then-not-first-clause-first
returns-then-not-first-clause-first c =
    first-operators c.args.request.now c.args.enough c.in_ok-first.first.is_all c.in_ok-first.first.entries.items c.if-not-first.true
    c.in_ok-first.ensures.gathers

pub returns-then-not-first-clause-order : goal.returns-then-not-first-clause-order
returns-then-not-first-clause-order c =
    let are : AreFirstEntries c.args.request.now c.args.enough c.in_ok-first.first.is_all c.in_ok-first.first.entries.items =
    first-operators c.args.request.now c.args.enough c.in_ok-first.first.is_all c.in_ok-first.first.entries.items c.if-not-first.true
    c.in_ok-first.ensures.gathers in
    (are.are_enough (not-all c.in_ok-first.first.is_all c.if-not-first.true)).ordered

pub returns-then-not-is_all-clause-first : goal.returns-then-not-is_all-clause-first
returns-then-not-is_all-clause-first c =
    first-macros c.args.request.now c.args.enough c.in_ok-first.first.is_all c.in_ok-is_all.is_all c.in_ok-first.first.entries.items
    c.gather_first_tables.new.found.items
    c.if-not-first.false c.in_ok-first.ensures.gathers c.in_ok-is_all.ensures.gathers

pub returns-then-not-is_all-clause-order : goal.returns-then-not-is_all-clause-order
returns-then-not-is_all-clause-order c =
    let are : AreFirstEntries c.args.request.now c.args.enough c.in_ok-is_all.is_all c.gather_first_tables.new.found.items =
    first-macros c.args.request.now c.args.enough c.in_ok-first.first.is_all c.in_ok-is_all.is_all c.in_ok-first.first.entries.items
    c.gather_first_tables.new.found.items
    c.if-not-first.false c.in_ok-first.ensures.gathers c.in_ok-is_all.ensures.gathers in
    (are.are_enough c.if-not-is_all.true).ordered

pub returns-clause-first : goal.returns-clause-first
returns-clause-first c =
    first-ordered c.args.request.now c.args.enough c.in_ok-is_all.is_all c.gather_first_tables.new.found.items
    c.order_entries.new.found.items
    c.if-not-is_all.false c.order_entries.ensures.members
    (first-macros c.args.request.now c.args.enough c.in_ok-first.first.is_all c.in_ok-is_all.is_all c.in_ok-first.first.entries.items
    c.gather_first_tables.new.found.items
    c.if-not-first.false c.in_ok-first.ensures.gathers c.in_ok-is_all.ensures.gathers)
