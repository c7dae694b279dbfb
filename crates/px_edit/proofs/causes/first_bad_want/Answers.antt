use Rattle.std.proofs.Common.{◌≡◌, subst}
use Rattle.px_base.specs.Answers.{both_answers, some_same}
use Rattle.px_edit.specs.EditCauses.{IsBadWantAt, IsFirstBadWant}
use Rattle.px_edit.proofs.EditSteps.{none-next, none-past}
use Rattle.px_edit.proofs.causes.first_bad_want.Goals as goal

pub returns-then-is_bad_at-clause-first : goal.returns-then-is_bad_at-clause-first
returns-then-is_bad_at-clause-first c = λ place e.
    let same : c.loop-place.place ≡ place = some_same e in
    subst (IsFirstBadWant c.args.problem.now c.args.table.now c.args.prefix c.args.wanted.now) same
    record { bad = c.is_bad_at.ensures.0 c.if-is_bad_at.true; first = c.loop-place.invariant }

pub loop-place-preserved : goal.loop-place-preserved
loop-place-preserved c =
    none-next (IsBadWantAt c.args.problem.now c.args.table.now c.args.prefix c.args.wanted.now) c.loop-place.place c.loop-place.invariant
    (λ bad. both_answers _ c.if-is_bad_at.false (c.is_bad_at.ensures.1 bad))

pub returns-clause-none : goal.returns-clause-none
returns-clause-none c = λ _.
    none-past c.args.problem.now c.args.table.now c.args.prefix c.args.wanted.now c.loop-place.place c.loop-place-test.false
    c.loop-place.invariant
