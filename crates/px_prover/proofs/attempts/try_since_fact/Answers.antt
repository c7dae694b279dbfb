use Rattle.px_prover.specs.Asking.{setting_in}
use Rattle.px_prover.specs.Standing.{ticks_in}
use Rattle.px_prover.specs.Tries.{TriesSince}
use Rattle.px_prover.proofs.Joins.{ready-same, join-fact}
use Rattle.px_prover.proofs.Ready.{ready-below}
use Rattle.px_prover.proofs.Since.{fact-found}
use Rattle.px_proof.specs.declared.shape.Tick.TheVariants.{Fact, Anc}
use Rattle.px_proof_state.proofs.Trying.{if_ok}
use Rattle.px_prover.proofs.attempts.try_since_fact.Goals as goal

pub try_facts-requires-clause-goal_below : goal.try_facts-requires-clause-goal_below
try_facts-requires-clause-goal_below c =
    ready-below c.args.question.now.loose (setting_in c.args.question.now) c.args.question.now.formula.now c.args.question.now.variable_count
    (ticks_in c.args.state.now.choices) c.args.state.now c.args.goal.now c.requires

pub returns-in-Ok-true : goal.returns-in-Ok-true
returns-in-Ok-true c =
    let found =
    fact-found c.args.question.now.loose (setting_in c.args.question.now) c.args.question.now.formula.now c.args.question.now.variable_count
    (ticks_in c.args.state.now.choices) c.args.state.now c.args.goal.now c.requires c.args.from c.try_facts.new.state
    (rw c.in-Ok-true.field-0-test at c.in-Ok-true.ensures) in
    found

pub try_since_ancestor-requires : goal.try_since_ancestor-requires
try_since_ancestor-requires c =
    ready-same c.args.question.now c.args.state.now c.try_facts.new.state c.args.goal.now
    (c.in-Ok-false.ensures.no_more c.in-Ok-false.field-0-test).0 c.requires

pub returns : goal.returns
returns c =
    if_ok c.try_since_ancestor.result
    (λ found. TriesSince c.args.question.now (Anc 0) c.try_facts.new.state c.try_since_ancestor.new.state found)
    (λ found. TriesSince c.args.question.now (Fact c.args.from) c.args.state.now c.try_since_ancestor.new.state found)
    (λ found later. join-fact c.args.question.now c.args.state.now c.try_facts.new.state c.args.goal.now c.requires
    c.try_since_ancestor.new.state found c.args.from (rw c.in-Ok-false.field-0-test at c.in-Ok-false.ensures) later)
    c.try_since_ancestor.ensures
