use Rattle.std.proofs.Common.{arith}
use Rattle.px_prover.specs.GapAsking.{gap_setting}
use Rattle.px_prover.proofs.Missing.{missing-open, missing-start, missing-next, missing-end}
use Rattle.px_unify.specs.Changes.{variables_of}
use Rattle.px_prover.proofs.gathering.missing_atoms.Goals as goal

pub loop-choice-init : goal.loop-choice-init
loop-choice-init c =
    missing-start (gap_setting c.args._question.now) c.args._question.now.formula.now c.args._question.now.variable_count
    (variables_of c.args.state.now.changes) c.choices-choices.result.now c.new-atoms.result.items c.new-atoms.ensures.items

pub goal_at-goal-requires-clause-some : goal.goal_at-goal-requires-clause-some
goal_at-goal-requires-clause-some c =
    (missing-open (gap_setting c.args._question.now) c.args._question.now.formula.now c.args._question.now.variable_count c.requires.asked
    c.choices-choices.result.now c.args.state.now c.requires c.choices-choices.ensures c.loop-choice.choice-index _
    c.loop-choice-test.true c.choice-item.is).some

pub goal_at-goal-requires-clause-within : goal.goal_at-goal-requires-clause-within
goal_at-goal-requires-clause-within c =
    (missing-open (gap_setting c.args._question.now) c.args._question.now.formula.now c.args._question.now.variable_count c.requires.asked
    c.choices-choices.result.now c.args.state.now c.requires c.choices-choices.ensures c.loop-choice.choice-index _
    c.loop-choice-test.true c.choice-item.is).within

pub loop-choice-preserved : goal.loop-choice-preserved
loop-choice-preserved c =
    let was_open =
    missing-open (gap_setting c.args._question.now) c.args._question.now.formula.now c.args._question.now.variable_count c.requires.asked
    c.choices-choices.result.now c.args.state.now c.requires c.choices-choices.ensures c.loop-choice.choice-index _
    c.loop-choice-test.true c.choice-item.is in
    missing-next (gap_setting c.args._question.now) c.args._question.now.formula.now c.args._question.now.variable_count c.choices-choices.result.now
    c.loop-choice.choice-index _ (variables_of c.args.state.now.changes) c.goal_at-goal.result c.loop-choice.atoms.items
    c.keep_gap.new.atoms.items
    c.loop-choice-test.true c.choice-item.is (was_open.each c.goal_at-goal.result c.goal_at-goal.ensures) c.loop-choice.invariant
    c.in_ok-keep_gap.ensures

pub returns : goal.returns
returns c =
    missing-end (gap_setting c.args._question.now) c.args._question.now.formula.now c.args._question.now.variable_count c.choices-choices.result.now
    c.loop-choice.choice-index (variables_of c.args.state.now.changes) c.args.state.now.choices c.loop-choice.atoms.items
    (omega (arith, c.loop-choice-test.false)) c.choices-choices.ensures c.loop-choice.invariant
