use Rattle.std.proofs.Common.{◌≡◌, ◌∙◌, ap, length, arith}
use Rattle.px_base.proofs.Loops.{ok_map}
use Rattle.px_terms.proofs.VariableLemmas.{length-variables}
use Rattle.px_replay.specs.Opened.{named_goal, opened_goal}
use Rattle.px_replay.proofs.GoalSteps.{goal-opened}
use Rattle.px_replay.proofs.goal.open_goal.Goals as goal

pub named_goal-requires-clause-objects : goal.named_goal-requires-clause-objects
named_goal-requires-clause-objects c =
    omega (arith, c.requires.objects, ap length (c.deref.ensures.value ∙ c.in_ok-slots.ensures), length-variables 0 c.args.own)

pub named_goal-requires-clause-few : goal.named_goal-requires-clause-few
named_goal-requires-clause-few c =
    omega (arith, c.requires.few, ap length (c.deref.ensures.value ∙ c.in_ok-slots.ensures), length-variables 0 c.args.own)

pub returns : goal.returns
returns c =
    ok_map (λ made. made.items ≡ named_goal c.deref.result.now c.args.own c.args.first c.args.goal.now)
    (λ made. made.items ≡ opened_goal c.args.first c.args.own c.args.goal.now)
    (λ made is. is ∙ ap (λ l. named_goal l c.args.own c.args.first c.args.goal.now) (c.deref.ensures.value ∙ c.in_ok-slots.ensures)
    ∙ goal-opened c.args.own c.args.first c.args.goal.now c.requires.objects)
    c.named_goal.result c.named_goal.ensures
