use Rattle.std.proofs.Common.{arith}
use Rattle.px_prover.specs.Asking.{setting_in}
use Rattle.px_prover.specs.Standing.{ticks_in}
use Rattle.px_prover.specs.Tries.{TriesSince}
use Rattle.px_prover.proofs.Joins.{ready-same, join-ancestor, past-ancestors}
use Rattle.px_prover.proofs.Ready.{ready-above, ready-below, ready-near, ready-path_below}
use Rattle.px_prover.proofs.Since.{ancestor-found}
use Rattle.px_proof.specs.declared.shape.Tick.TheVariants.{Anc, Step}
use Rattle.px_proof_state.specs.Arena.{path_at}
use Rattle.px_proof_state.proofs.Trying.{if_ok}
use Rattle.px_prover.proofs.attempts.try_since_ancestor.Goals as goal

pub try_ancestors-requires-clause-few : goal.try_ancestors-requires-clause-few
try_ancestors-requires-clause-few c =
    ready-near c.args.question.now.loose (setting_in c.args.question.now) c.args.question.now.formula.now c.args.question.now.variable_count
    (ticks_in c.args.state.now.choices) c.args.state.now c.args.goal.now c.requires

pub try_ancestors-requires-clause-above_older : goal.try_ancestors-requires-clause-above_older
try_ancestors-requires-clause-above_older c =
    ready-above c.args.question.now.loose (setting_in c.args.question.now) c.args.question.now.formula.now c.args.question.now.variable_count
    (ticks_in c.args.state.now.choices) c.args.state.now c.args.goal.now c.requires

pub try_ancestors-requires-clause-arena : goal.try_ancestors-requires-clause-arena
try_ancestors-requires-clause-arena c = c.requires.sound.arena

pub try_ancestors-requires-clause-goal_below : goal.try_ancestors-requires-clause-goal_below
try_ancestors-requires-clause-goal_below c =
    ready-below c.args.question.now.loose (setting_in c.args.question.now) c.args.question.now.formula.now c.args.question.now.variable_count
    (ticks_in c.args.state.now.choices) c.args.state.now c.args.goal.now c.requires

pub try_ancestors-requires-clause-path_below : goal.try_ancestors-requires-clause-path_below
try_ancestors-requires-clause-path_below c =
    ready-path_below c.args.question.now.loose (setting_in c.args.question.now) c.args.question.now.formula.now c.args.question.now.variable_count
    (ticks_in c.args.state.now.choices) c.args.state.now c.args.goal.now c.requires

pub returns-in-Ok-true : goal.returns-in-Ok-true
returns-in-Ok-true c =
    ancestor-found c.args.question.now.loose (setting_in c.args.question.now) c.args.question.now.formula.now c.args.question.now.variable_count
    (ticks_in c.args.state.now.choices) c.args.state.now c.args.goal.now c.requires c.args.from c.try_ancestors.new.state
    (rw c.in-Ok-true.field-0-test at c.in-Ok-true.ensures)

pub try_since_axiom-requires-2 : goal.try_since_axiom-requires-2
try_since_axiom-requires-2 c =
    ready-same c.args.question.now c.args.state.now c.try_ancestors.new.state c.args.goal.now
    (c.in-Ok-false.ensures.no_more c.in-Ok-false.field-0-test).0 c.requires

pub returns-then-from : goal.returns-then-from
returns-then-from c =
    let near =
    ready-near c.args.question.now.loose (setting_in c.args.question.now) c.args.question.now.formula.now c.args.question.now.variable_count
    (ticks_in c.args.state.now.choices) c.args.state.now c.args.goal.now c.requires in
    if_ok c.try_since_axiom.result
    (λ found. TriesSince c.args.question.now (Step 0 0) c.args.state.now c.try_since_axiom.new.state found)
    (λ found. TriesSince c.args.question.now (Anc c.args.from) c.args.state.now c.try_since_axiom.new.state found)
    (λ found later. join-ancestor c.args.question.now c.args.state.now c.args.state.now c.args.goal.now c.requires
    c.try_since_axiom.new.state found c.args.from
    (past-ancestors (path_at c.args.state.now.goals c.args.goal.now.above) c.args.state.now c.args.goal.now c.args.from
    (omega (arith, near, c.if-from.true))) later)
    c.try_since_axiom.ensures

pub returns : goal.returns
returns c =
    if_ok c.try_since_axiom-2.result
    (λ found. TriesSince c.args.question.now (Step 0 0) c.try_ancestors.new.state c.try_since_axiom-2.new.state found)
    (λ found. TriesSince c.args.question.now (Anc c.args.from) c.args.state.now c.try_since_axiom-2.new.state found)
    (λ found later. join-ancestor c.args.question.now c.args.state.now c.try_ancestors.new.state c.args.goal.now c.requires
    c.try_since_axiom-2.new.state found c.args.from (rw c.in-Ok-false.field-0-test at c.in-Ok-false.ensures) later)
    c.try_since_axiom-2.ensures
