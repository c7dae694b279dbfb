use Rattle.std.proofs.Common.{true, false}
use Rattle.px_prover.specs.Asking.{setting_in}
use Rattle.px_prover.specs.Standing.{ticks_in}
use Rattle.px_prover.specs.Tries.{TriesSince}
use Rattle.px_prover.proofs.Joins.{any-as, gap-not_loose, gap-denied, gap-not_added, gap-tried}
use Rattle.px_prover.proofs.Ready.{ready-below}
use Rattle.px_proof.specs.declared.shape.Tick.TheVariants.{Gap}
use Rattle.px_proof_state.specs.Matches.{ClosesBy}
use Rattle.px_proof_state.proofs.Trying.{if_ok}
use Rattle.px_prover.proofs.attempts.try_gap.Goals as goal

pub close_by_gap-requires : goal.close_by_gap-requires
close_by_gap-requires c =
    ready-below c.args.question.now.loose (setting_in c.args.question.now) c.args.question.now.formula.now c.args.question.now.variable_count
    (ticks_in c.args.state.now.choices) c.args.state.now c.args.goal.now c.requires

pub returns-then-not-question : goal.returns-then-not-question
returns-then-not-question c = gap-not_loose c.args.question.now c.args.state.now c.args.goal.now c.requires c.if-not-question.true

pub returns-then-not-goal : goal.returns-then-not-goal
returns-then-not-goal c = gap-denied c.args.question.now c.args.state.now c.args.goal.now c.requires c.if-not-goal.true

pub returns-then-not-is_added : goal.returns-then-not-is_added
returns-then-not-is_added c =
    gap-not_added c.args.question.now c.args.state.now c.args.goal.now c.requires
    (any-as c.pred.result c.args.goal.now.lit.atom.pred c.args.question.now.problem.now.schemas c.is_added.result
    false c.pred.ensures c.is_added.ensures c.if-not-is_added.true)

pub returns : goal.returns
returns c =
    if_ok c.close_by_gap.result
    (λ found. ClosesBy c.args.state.now c.close_by_gap.new.state Gap c.args.goal.now.lit c.args.goal.now.lit c.args.goal.now.next found)
    (λ found. TriesSince c.args.question.now Gap c.args.state.now c.close_by_gap.new.state found)
    (λ found closes. gap-tried c.args.question.now c.args.state.now c.args.goal.now c.requires c.if-not-question.false c.if-not-goal.false
    (any-as c.pred.result c.args.goal.now.lit.atom.pred c.args.question.now.problem.now.schemas c.is_added.result true
    c.pred.ensures c.is_added.ensures c.if-not-is_added.false)
    c.close_by_gap.new.state found closes)
    c.close_by_gap.ensures
