use Rattle.std.proofs.Common.{arith, refl}
use Rattle.px_support.proofs.MacroGoing.{next-findable, within-all, within-next, within-none}
use Rattle.px_support.proofs.macros.take_steps.Goals as goal

pub loop-place-init : goal.loop-place-init
loop-place-init c =
    within-none c.args.asked.now.problem.now c.args.learned.now c.requires.learned c.args.walk
    (record { walk = c.args.walk; facts = c.in_ok-facts.facts }) refl c.in_ok-facts.ensures c.requires.findable c.requires.steps

pub take_step-requires-clause-findable : goal.take_step-requires-clause-findable
take_step-requires-clause-findable c =
    next-findable c.args.asked.now.problem.now c.args.learned.now c.requires.learned c.args.walk c.loop-place.place c.loop-place.within
    c.loop-place-test.true c.loop-place.invariant

pub take_step-requires-clause-steps : goal.take_step-requires-clause-steps
take_step-requires-clause-steps c = c.loop-place.invariant.all_ground

pub take_step-requires-clause-short : goal.take_step-requires-clause-short
take_step-requires-clause-short c =
    omega (arith, c.loop-place.invariant.count, c.requires.shift, c.requires.learned.room, c.loop-place-test.true)

pub loop-place-preserved : goal.loop-place-preserved
loop-place-preserved c =
    within-next c.args.asked.now.problem.now c.args.learned.now c.requires.learned c.args.walk c.loop-place.place c.loop-place.within
    c.in_ok-within.within c.loop-place-test.true c.loop-place.invariant c.in_ok-within.ensures

pub returns : goal.returns
returns c =
    within-all c.args.asked.now.problem.now c.args.learned.now c.requires.learned c.args.walk c.loop-place.place c.loop-place.within
    c.loop-place-test.false c.loop-place.invariant
