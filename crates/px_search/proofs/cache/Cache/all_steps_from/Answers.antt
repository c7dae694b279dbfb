use Rattle.std.proofs.Common.{◌∙◌, List, refl, sym, subst}
use Rattle.px_table.specs.declared.entry.Entry.{Entry}
use Rattle.px_table.specs.declared.node.Node.{Node}
use Rattle.px_gaps.specs.Known.{IsKnownOf, IsOpenWith}
use Rattle.px_ends.specs.Tasks.{needs_at, needs_with}
use Rattle.px_numbers.specs.Numbers.{IsKeyOf}
use Rattle.px_base.proofs.Loops.{ok_map}
use Rattle.px_support.specs.Asking.{task_for}
use Rattle.px_search.specs.Going.{IsGoneOn, LimitsAt, LimitsNode}
use Rattle.px_search.specs.declared.step.Step.{Step}
use Rattle.px_search.proofs.FromLaws.{gone-applicable, gone-closed, if_limit, of_node, same_node, stack_of, stacked-applicable}
use Rattle.px_search.proofs.CacheLaws.{any_answer, grown-numbers}
use Rattle.px_search.proofs.Stepping.{limits-needs}
use Rattle.px_search.proofs.cache.Cache.all_steps_from.Goals as goal

pub returns-in-Limited-clause-limited : goal.returns-in-Limited-clause-limited
returns-in-Limited-clause-limited c = λ node stands.
    let task = task_for c.args.asked.now in
    limits-needs task node c.in-Limited.limit
    (subst (IsKnownOf task.problem (needs_at task node)) c.in-Limited.is (c.in_ok-known.ensures node stands))

pub returns-in-Closed-clause-steps : goal.returns-in-Closed-clause-steps
returns-in-Closed-clause-steps c = λ node stands.
    let task = task_for c.args.asked.now in
    let kept = c.args.self.now.numbers in
    subst (λ (s : List Step). IsGoneOn task kept node s) (sym c.new.ensures.items)
    (gone-closed task kept node (subst (IsKnownOf task.problem (needs_at task node)) c.in-Closed.is (c.in_ok-known.ensures node stands)))

pub returns-in-Applicable-clause-steps : goal.returns-in-Applicable-clause-steps
returns-in-Applicable-clause-steps c = λ node stands.
    let task = task_for c.args.asked.now in
    let kept = c.args.self.now.numbers in
    let n = c.requires.node in
    let known = subst (IsKnownOf task.problem (needs_at task n.node)) c.in-Applicable.is (c.in_ok-known.ensures n.node n.stands) in
    of_node kept c.args.key (λ (m : Node). IsGoneOn task kept m c.in_ok-only-in-Applicable.only.items) node n.node.model n.node.stack stands
    n.stands.model (stack_of kept c.args.key n.node node n.node.stack n.stands stands refl)
    (subst (λ (s : List Step). IsGoneOn task kept n.node s) (sym c.in_ok-only-in-Applicable.ensures)
    (gone-applicable task kept n.node (stacked-applicable task n.node n.tried known) known))

pub pushes-requires-clause-gaps : goal.pushes-requires-clause-gaps
pushes-requires-clause-gaps c =
    let task = task_for c.args.asked.now in
    let kept = c.args.self.now.numbers in
    let n = c.requires.node in
    let model = c.in_ok-model.model.atoms in
    let stack = c.in_ok-stack.stack.items in
    let known : IsOpenWith task.problem (needs_at task n.node) c.in-Open.gaps =
    subst (IsKnownOf task.problem (needs_at task n.node)) c.in-Open.is (c.in_ok-known.ensures n.node n.stands) in
    let here : IsOpenWith task.problem (needs_with task model stack) c.in-Open.gaps =
    subst (λ (m : Node). IsOpenWith task.problem (needs_at task m) c.in-Open.gaps)
    (sym (same_node kept c.args.key n.node model stack n.stands c.in_ok-model.ensures
    (c.in_ok-stack.ensures n.node.stack n.stands.stack))) known in
    subst (λ (s : List Entry). IsOpenWith task.problem (needs_with task model s) c.as_slice-in-Open.result.now)
    (sym c.as_slice.ensures.value)
    (subst (IsOpenWith task.problem (needs_with task model stack)) (sym c.as_slice-in-Open.ensures) here)

pub returns-clause-steps : goal.returns-clause-steps
returns-clause-steps c =
    let task = task_for c.args.asked.now in
    let kept = c.args.self.now.numbers in
    let new = c.pushes.new.numbers in
    let n = c.requires.node in
    let model = c.in_ok-model.model.atoms in
    let stack = c.as_slice.result.now in
    ok_map (λ steps. IsGoneOn task new (record { model = model; stack = stack }) steps.items)
    (λ steps. (node : Node) → IsKeyOf kept c.args.key node → IsGoneOn task new node steps.items)
    (λ steps gone node stands. of_node kept c.args.key
    (λ (m : Node). IsGoneOn task new m steps.items) node model stack stands c.in_ok-model.ensures
    (c.as_slice.ensures.value ∙ c.in_ok-stack.ensures node.stack stands.stack) gone) c.pushes.result c.pushes.ensures.steps

pub returns-clause-limited : goal.returns-clause-limited
returns-clause-limited c =
    let task = task_for c.args.asked.now in
    let kept = c.args.self.now.numbers in
    let model = c.in_ok-model.model.atoms in
    let stack = c.as_slice.result.now in
    if_limit (LimitsNode task (record { model = model; stack = stack }))
    (LimitsAt task kept c.args.key) c.pushes.result c.pushes.ensures.limited
    (λ limit limits node stands. of_node kept c.args.key
    (λ (m : Node). LimitsNode task m limit) node model stack stands c.in_ok-model.ensures
    (c.as_slice.ensures.value ∙ c.in_ok-stack.ensures node.stack stands.stack) limits)

pub returns-clause-cache : goal.returns-clause-cache
returns-clause-cache c =
    any_answer c.pushes.result (grown-numbers (task_for c.args.asked.now) c.args.self.now c.pushes.new.numbers c.pushes.ensures.keeps
    c.requires.cache)
