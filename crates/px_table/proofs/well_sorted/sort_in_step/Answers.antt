use Rattle.std.proofs.Common.{sym, ◌∙◌}
use Rattle.std.proofs.lemmas.List.{drop_all}
use Rattle.px_table.proofs.SortSteps.{no-sort, sort-here, sort-later}
use Rattle.px_table.proofs.well_sorted.sort_in_step.Goals as goal

pub returns-then-stands_sorted : goal.returns-then-stands_sorted
returns-then-stands_sorted c =
    c.sort_at.ensures
    ∙ sort-here c.args.wanted.now c.args.args.now c.loop-place.place c.args.parameter c.loop-place-test.true c.stands_sorted.result
    c.stands_sorted.ensures c.loop-place.invariant c.if-stands_sorted.true

pub loop-place-preserved : goal.loop-place-preserved
loop-place-preserved c =
    sort-later c.args.wanted.now c.args.args.now c.loop-place.place c.args.parameter c.loop-place-test.true c.stands_sorted.result
    c.stands_sorted.ensures c.loop-place.invariant c.if-stands_sorted.false

pub returns : goal.returns
returns c =
    sym (no-sort c.args.wanted.now c.args.args.now c.loop-place.place c.args.parameter
    (drop_all c.loop-place.place c.args.args.now c.loop-place-test.false)) ∙ c.loop-place.invariant
