use Rattle.std.proofs.Common.{true, ◌∷◌, [], List, sym, subst}
use Rattle.px_table.specs.declared.node.Node.{Node}
use Rattle.px_gaps.specs.Known.{IsKnownOf, IsOpenWith}
use Rattle.px_ends.specs.Tasks.{goal_from}
use Rattle.px_numbers.specs.Numbers.{IsKeyOf}
use Rattle.px_numbers.specs.NumberLaws.{one_model}
use Rattle.px_base.proofs.Loops.{ok_map}
use Rattle.px_support.specs.Asking.{task_for}
use Rattle.px_search.specs.Going.{AreFirstSuccessors, LimitsNode}
use Rattle.px_search.specs.declared.step.Step.{Step}
use Rattle.px_search.proofs.BeginningLaws.{all-successors}
use Rattle.px_search.proofs.FromLaws.{no_answer, gone-closed, goal-answered, goal-each, if_limit}
use Rattle.px_search.proofs.Stepping.{limits-needs}
use Rattle.px_search.proofs.cache.Cache.goal_steps.Goals as goal

pub known_formula-requires-clause-no_answer : goal.known_formula-requires-clause-no_answer
known_formula-requires-clause-no_answer c =
    let n = c.requires.node in
    no_answer (task_for c.args.asked.now) n.0 c.args.current.now.model.atoms n.3 n.2
    (one_model c.args.self.now.numbers c.args.key.model c.args.current.now.model.atoms n.0.model c.requires.current.model_at n.1.model)

pub unreachable-requires : goal.unreachable-requires
unreachable-requires c =
    let task = task_for c.args.asked.now in
    let n = c.requires.node in
    let model = c.args.current.now.model.atoms in
    goal-answered task model (no_answer task n.0 model n.3 n.2
    (one_model c.args.self.now.numbers c.args.key.model model n.0.model c.requires.current.model_at n.1.model))
    (subst (IsKnownOf task.problem (goal_from task model ∷ [])) c.in-Applicable.is c.in_ok-known.ensures)

pub returns-in-Limited-clause-limited : goal.returns-in-Limited-clause-limited
returns-in-Limited-clause-limited c =
    let task = task_for c.args.asked.now in
    let n = c.requires.node in
    let model = c.args.current.now.model.atoms in
    goal-each c.args.self.now.numbers c.args.key model n.0 n.1 n.2 c.requires.current.model_at
    (λ (node : Node). LimitsNode task node c.in-Limited.limit)
    (limits-needs task (record { model = model; stack = [] }) c.in-Limited.limit
    (subst (IsKnownOf task.problem (goal_from task model ∷ [])) c.in-Limited.is c.in_ok-known.ensures))

pub returns-in-Closed-clause-steps : goal.returns-in-Closed-clause-steps
returns-in-Closed-clause-steps c =
    let task = task_for c.args.asked.now in
    let kept = c.args.self.now.numbers in
    let n = c.requires.node in
    let model = c.args.current.now.model.atoms in
    goal-each kept c.args.key model n.0 n.1 n.2 c.requires.current.model_at
    (λ (node : Node). AreFirstSuccessors task kept node c.new.result.items true)
    (subst (λ (s : List Step). AreFirstSuccessors task kept (record { model = model; stack = [] }) s true) (sym c.new.ensures.items)
    (all-successors task kept (record { model = model; stack = [] }) [] true
    (gone-closed task kept (record { model = model; stack = [] })
    (subst (IsKnownOf task.problem (goal_from task model ∷ [])) c.in-Closed.is c.in_ok-known.ensures))))

pub pushes_to_goal-requires-clause-gaps : goal.pushes_to_goal-requires-clause-gaps
pushes_to_goal-requires-clause-gaps c =
    let task = task_for c.args.asked.now in
    let needs = goal_from task c.args.current.now.model.atoms ∷ [] in
    subst (IsOpenWith task.problem needs) (sym c.as_slice.ensures) (subst (IsKnownOf task.problem needs) c.in-Open.is c.in_ok-known.ensures)

pub returns-in-Open-clause-steps : goal.returns-in-Open-clause-steps
returns-in-Open-clause-steps c =
    let task = task_for c.args.asked.now in
    let new = c.pushes_to_goal.new.self.numbers in
    let n = c.requires.node in
    let model = c.args.current.now.model.atoms in
    ok_map (λ successors. AreFirstSuccessors task new (record { model = model; stack = [] }) successors.steps.items successors.is_all)
    (λ successors. (node : Node) → IsKeyOf c.args.self.now.numbers c.args.key node → AreFirstSuccessors task new node
    successors.steps.items successors.is_all)
    (λ successors is. goal-each c.args.self.now.numbers c.args.key model n.0 n.1 n.2 c.requires.current.model_at
    (λ (node : Node). AreFirstSuccessors task new node successors.steps.items successors.is_all) is) c.pushes_to_goal.result
    c.pushes_to_goal.ensures.steps

pub returns-in-Open-clause-limited : goal.returns-in-Open-clause-limited
returns-in-Open-clause-limited c =
    let task = task_for c.args.asked.now in
    let n = c.requires.node in
    let model = c.args.current.now.model.atoms in
    if_limit (LimitsNode task (record { model = model; stack = [] }))
    (λ limit. (node : Node) → IsKeyOf c.args.self.now.numbers c.args.key node → LimitsNode task node limit)
    c.pushes_to_goal.result c.pushes_to_goal.ensures.limited
    (λ limit limits. goal-each c.args.self.now.numbers c.args.key model n.0 n.1 n.2 c.requires.current.model_at
    (λ (node : Node). LimitsNode task node limit) limits)
