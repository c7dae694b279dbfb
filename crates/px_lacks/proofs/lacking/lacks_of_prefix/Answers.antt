use Rattle.std.proofs.Common.{◌∙◌, ◌<◌, ◌≤◌, ◌+◌, take, ap, sym, subst, arith, add-one}
use Rattle.px_table.specs.Kernels.{steps_under}
use Rattle.px_entries.specs.Entries.{initial_atoms}
use Rattle.px_entries.proofs.RowSteps.{marks-variables, steps-count, steps-ground, step-taken, steps-variables}
use Rattle.px_lacks.proofs.RowSums.{all-counted, next-counted, none-counted}
use Rattle.px_lacks.proofs.lacking.lacks_of_prefix.Goals as goal

pub loop-place-init : goal.loop-place-init
loop-place-init c =
    none-counted c.args.problem.now c.args.table.now c.args.sigma.now
    (take c.args.prefix (steps_under c.args.table.now c.args.sigma.now)) c.args.model.now.atoms c.in_ok-facts.facts.atoms
    c.in_ok-facts.ensures

pub step_under-step-requires-clause-place : goal.step_under-step-requires-clause-place
step_under-step-requires-clause-place c = omega (arith, c.loop-place-test.true, c.requires.prefix.within)

pub step_under-step-requires-clause-steps : goal.step_under-step-requires-clause-steps
step_under-step-requires-clause-steps c =
    steps-variables c.args.problem.now c.args.table.now c.args.sigma.now c.requires.table c.requires.prefix.count

pub initial_of-requires : goal.initial_of-requires
initial_of-requires c =
    record { marks = marks-variables c.args.problem.now c.args.table.now c.args.sigma.now c.requires.table c.requires.prefix.count }

pub left_of-requires-clause-inst : goal.left_of-requires-clause-inst
left_of-requires-clause-inst c =
    steps-ground c.args.problem.now c.args.table.now c.args.sigma.now c.loop-place.place c.step_under-step.result c.requires.table
    c.requires.prefix.count (omega (arith, c.loop-place-test.true, c.requires.prefix.within)) c.step_under-step.ensures

pub loop-place-preserved : goal.loop-place-preserved
loop-place-preserved c =
    let table = c.args.table.now in
    let sigma = c.args.sigma.now in
    let place = c.loop-place.place in
    next-counted c.args.problem.now table sigma (take c.args.prefix (steps_under table sigma)) c.args.model.now.atoms place
    c.loop-place.facts.atoms c.in_ok-left.left.atoms c.deref.result.now c.loop-place.count c.lacks_of-row.result c.in_ok-sum.sum
    (place + 1) c.step_under-step.result
    (subst (λ n. place < n) (sym (steps-count table sigma c.args.prefix c.requires.prefix.within)) c.loop-place-test.true)
    (step-taken table sigma c.args.prefix place c.step_under-step.result c.loop-place-test.true c.step_under-step.ensures)
    c.loop-place.invariant c.lacks_of-row.ensures
    (c.deref.ensures.value ∙ c.in_ok-formula.ensures ∙ ap (initial_atoms table sigma) (add-one place))
    c.in_ok-sum.ensures c.in_ok-left.ensures (add-one place)

pub returns : goal.returns
returns c =
    let table = c.args.table.now in
    let sigma = c.args.sigma.now in
    all-counted c.args.problem.now table sigma (take c.args.prefix (steps_under table sigma)) c.args.model.now.atoms c.loop-place.place
    c.loop-place.facts.atoms c.loop-place.count
    (subst (λ n. n ≤ c.loop-place.place) (sym (steps-count table sigma c.args.prefix c.requires.prefix.within)) c.loop-place-test.false)
    c.loop-place.invariant
