use Rattle.px_prover.specs.Asking.{setting_in}
use Rattle.px_prover.specs.Standing.{ticks_in}
use Rattle.px_prover.specs.Tries.{TriesSince}
use Rattle.px_prover.proofs.Joins.{ready-same, join-axiom}
use Rattle.px_prover.proofs.Ready.{ready-below, ready-fit, ready-next}
use Rattle.px_prover.proofs.Since.{axiom-found}
use Rattle.px_proof.specs.declared.shape.Tick.TheVariants.{Step, Gap}
use Rattle.px_proof_state.proofs.Trying.{if_ok}
use Rattle.px_prover.proofs.attempts.try_since_axiom.Goals as goal

pub try_axioms-requires-clause-fit : goal.try_axioms-requires-clause-fit
try_axioms-requires-clause-fit c =
    ready-fit c.args.question.now.loose (setting_in c.args.question.now) c.args.question.now.formula.now c.args.question.now.variable_count
    (ticks_in c.args.state.now.choices) c.args.state.now c.args.goal.now c.requires

pub try_axioms-requires-clause-goal_below : goal.try_axioms-requires-clause-goal_below
try_axioms-requires-clause-goal_below c =
    ready-below c.args.question.now.loose (setting_in c.args.question.now) c.args.question.now.formula.now c.args.question.now.variable_count
    (ticks_in c.args.state.now.choices) c.args.state.now c.args.goal.now c.requires

pub try_axioms-requires-clause-next_older : goal.try_axioms-requires-clause-next_older
try_axioms-requires-clause-next_older c =
    ready-next c.args.question.now.loose (setting_in c.args.question.now) c.args.question.now.formula.now c.args.question.now.variable_count
    (ticks_in c.args.state.now.choices) c.args.state.now c.args.goal.now c.requires

pub try_axioms-requires-clause-first_older : goal.try_axioms-requires-clause-first_older
try_axioms-requires-clause-first_older c = c.requires.sound.within

pub returns-in-Ok-true : goal.returns-in-Ok-true
returns-in-Ok-true c =
    axiom-found c.args.question.now.loose (setting_in c.args.question.now) c.args.question.now.formula.now c.args.question.now.variable_count
    (ticks_in c.args.state.now.choices) c.args.state.now c.args.goal.now c.requires c.args.from c.args.place c.try_axioms.new.state
    (rw c.in-Ok-true.field-0-test at c.in-Ok-true.ensures)

pub try_gap-requires : goal.try_gap-requires
try_gap-requires c =
    ready-same c.args.question.now c.args.state.now c.try_axioms.new.state c.args.goal.now
    (c.in-Ok-false.ensures.no_more c.in-Ok-false.field-0-test).0 c.requires

pub returns : goal.returns
returns c =
    if_ok c.try_gap.result
    (λ found. TriesSince c.args.question.now Gap c.try_axioms.new.state c.try_gap.new.state found)
    (λ found. TriesSince c.args.question.now (Step c.args.from c.args.place) c.args.state.now c.try_gap.new.state found)
    (λ found later. join-axiom c.args.question.now c.args.state.now c.try_axioms.new.state c.args.goal.now c.requires c.try_gap.new.state
    found c.args.from c.args.place (rw c.in-Ok-false.field-0-test at c.in-Ok-false.ensures) later)
    c.try_gap.ensures
